-- What reading a file results in, what the program tells of its two files, and the line that it prints. Read them in
-- this order.
pub mod Reading
pub mod Telling
pub mod Spelling
