mod OneMoment
