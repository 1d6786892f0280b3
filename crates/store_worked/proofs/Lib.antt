mod OneCaller
