-- The place number falls at each call. Assumes nothing.
use Rattle.test_rules.proofs.+write_chart.Given as goal

abbrev pub decreases-write_chart : goal.decreases-write_chart
decreases-write_chart l = l.place
