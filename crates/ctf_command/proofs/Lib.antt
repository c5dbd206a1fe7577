mod Words
mod PublishedFiles
