pub mod Dll
