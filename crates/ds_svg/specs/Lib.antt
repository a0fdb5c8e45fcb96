pub mod Markup
pub mod Pages
pub mod Texts
