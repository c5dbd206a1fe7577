mod Progress
mod TypeLines
mod AllLines
mod PlainNames
