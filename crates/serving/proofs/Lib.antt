-- Laws of the values and of the bytes.
mod StateLaws
mod ByteLaws
