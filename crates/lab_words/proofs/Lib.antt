mod Again
mod Alike
mod Firsts
mod Keeping
mod Named
mod SourceLabels
