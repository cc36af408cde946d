mod OneWriting
mod AsMany
mod OneServing
mod OneRun
mod ServedEnds
