pub mod Before
pub mod Buffered
mod Laned
mod Numbered
pub mod Spans
