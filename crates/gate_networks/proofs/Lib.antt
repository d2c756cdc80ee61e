mod NoCommands
mod Came
