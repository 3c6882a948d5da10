mod Appended
mod Escapes
mod Gathered
