mod Aliases
