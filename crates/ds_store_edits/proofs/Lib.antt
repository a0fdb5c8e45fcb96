mod Makers
