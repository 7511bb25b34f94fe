mod Resizing
