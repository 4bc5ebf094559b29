mod Fine
mod Names
mod Secrets
