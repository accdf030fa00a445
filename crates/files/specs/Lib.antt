-- What is proved of whole session files. `Files`: the run of a file is a run of calls, what it can meet, and how long
-- its listing is; `Summed`: demand 3 of files; `Example`: one file in bytes.
pub mod Files
pub mod Summed
pub mod Example
