pub mod TableProgram
