mod Completed
