-- The refusals: their numbers, places and causes.
use Rattle.std.specs.Prelude.{ℕ, List, codes}
use Rattle.update.specs.declared.refusal.Refusal.{Refusal}
use Rattle.update.specs.declared.refusal.Refusal.TheVariants.{BadLength, BadMap, BadPredecessors, BadValueLength, NotGenuine, PredecessorAbsent, NoRoom, QuotaReached, PendingFull, BadMessage, DigestNotHeld, SmallBuffer, TooManyHeads, BadSetUp, NotAnnounced, NoSuchPlace, BadSettings}

abbrev pub number_of : Refusal → ℕ
number_of (BadLength place) = 1
number_of BadMap = 2
number_of (BadPredecessors place) = 3
number_of (BadValueLength place) = 4
number_of NotGenuine = 5
number_of PredecessorAbsent = 6
number_of NoRoom = 7
number_of QuotaReached = 8
number_of PendingFull = 9
number_of BadMessage = 10
number_of DigestNotHeld = 11
number_of SmallBuffer = 12
number_of TooManyHeads = 13
number_of BadSetUp = 14
number_of NotAnnounced = 15
number_of NoSuchPlace = 16
number_of BadSettings = 17

-- a byte index, 0 where the refusal names none
abbrev pub place_of : Refusal → ℕ
place_of (BadLength place) = place
place_of BadMap = 0
place_of (BadPredecessors place) = place
place_of (BadValueLength place) = place
place_of NotGenuine = 0
place_of PredecessorAbsent = 0
place_of NoRoom = 0
place_of QuotaReached = 0
place_of PendingFull = 0
place_of BadMessage = 0
place_of DigestNotHeld = 0
place_of SmallBuffer = 0
place_of TooManyHeads = 0
place_of BadSetUp = 0
place_of NotAnnounced = 0
place_of NoSuchPlace = 0
place_of BadSettings = 0

-- the cause in words
abbrev pub cause_of : Refusal → List ℕ
cause_of (BadLength place) = codes "the text is empty, ends inside a field or has bytes left over"
cause_of BadMap = codes "the map is not allowed, or the parts would need such a map"
cause_of (BadPredecessors place) = codes "the predecessors are not 1 to 8 digests, strictly ascending"
cause_of (BadValueLength place) = codes "the value does not have 1 to 64 bytes"
cause_of NotGenuine = codes "the text is not genuine"
cause_of PredecessorAbsent = codes "a predecessor is absent"
cause_of NoRoom = codes "there is no room in the store"
cause_of QuotaReached = codes "the author's quota is reached"
cause_of PendingFull = codes "the pending queue is full"
cause_of BadMessage = codes "the message or its summary breaks its form or is of another kind"
cause_of DigestNotHeld = codes "the digest is not held"
cause_of SmallBuffer = codes "the buffer is too small"
cause_of TooManyHeads = codes "there are too many heads"
cause_of BadSetUp = codes "a table is smaller than the store's capacity, or the store is not empty"
cause_of NotAnnounced = codes "the message comes before an announcement"
cause_of NoSuchPlace = codes "there is no text at this place"
cause_of BadSettings = codes "there are too many keys or digests, or the quota is 0"
