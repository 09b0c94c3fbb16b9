-- What has been written when some records have been printed (Writing).
mod Writing
