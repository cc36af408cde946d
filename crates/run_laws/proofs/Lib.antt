mod LineText
mod SaidLines
mod EndedRuns
