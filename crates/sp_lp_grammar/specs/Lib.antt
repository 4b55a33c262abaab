pub mod Grammar
pub mod InnerCursor
pub mod InnerMachine
pub mod Lexemes
pub mod Meaning
pub mod Reads
pub mod Trees
