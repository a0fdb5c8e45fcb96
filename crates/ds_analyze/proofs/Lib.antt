pub mod HandedOn
