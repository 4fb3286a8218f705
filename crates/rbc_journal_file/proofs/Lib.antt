mod StayingLemmas
