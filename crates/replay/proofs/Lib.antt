mod Recording
