mod CallLists
mod Shelves
mod StepLists
