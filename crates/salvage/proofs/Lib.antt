-- What has been written when some pieces have been printed (Writing).
mod Writing
