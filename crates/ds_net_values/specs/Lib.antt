pub mod ListValues
