mod Decoded
mod Encoded
