pub mod DataMarks
