mod Known
mod Ticks
