pub mod TextValues
