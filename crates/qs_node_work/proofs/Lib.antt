mod Quiet
