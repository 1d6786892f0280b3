mod Contents
mod Leaving
