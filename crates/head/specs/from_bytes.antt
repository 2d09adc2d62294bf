pub mod Decodes
