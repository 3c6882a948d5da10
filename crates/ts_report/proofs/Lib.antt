mod Fated
mod Sent
