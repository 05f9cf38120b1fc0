mod LeaveWalks
