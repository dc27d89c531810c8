mod Gated
