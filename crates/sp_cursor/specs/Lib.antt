pub mod Cursors
pub mod InnerCursors
