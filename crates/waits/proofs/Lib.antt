mod Polls
