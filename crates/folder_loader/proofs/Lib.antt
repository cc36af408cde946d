mod Told
mod Program
