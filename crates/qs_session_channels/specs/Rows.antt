-- One end of node 0, incarnation 1, that takes eight packets of node 1, one after the other.
use Rattle.std.specs.Prelude.{◌≡◌, ℕ, List, [], ◌∷◌, Bool, true, false}
use Rattle.qs_session_channels.specs.End.{End, Packet, Answer, OldPeer, NewPeer, OldSelf, Hello, Repeat, Early, Message, fresh, answer, received}

abbrev pub of : ℕ → ℕ → ℕ → Packet ℕ
of inc to_inc number = record { inc = inc; to_inc = to_inc; number = number; ack = 0; stamp = 0; message = 7 }

abbrev pub answers : End ℕ → List (Packet ℕ) → List (Answer ℕ)
answers e [] = []
answers e (p ∷ ps) = answer e p ∷ answers (received e p) ps

abbrev pub taken : List (Packet ℕ)
taken = of 3 1 1 ∷ of 3 1 1 ∷ of 3 1 1 ∷ of 3 1 3 ∷ of 2 1 2 ∷ of 3 0 0 ∷ of 3 1 0 ∷ of 4 1 1 ∷ of 3 1 2 ∷ []

abbrev pub given : List (Answer ℕ)
given = NewPeer 0 3 ∷ Message 7 ∷ Repeat 1 ∷ Early 3 2 ∷ OldPeer 3 2 ∷ OldSelf 1 0 ∷ Hello ∷ NewPeer 3 4 ∷ OldPeer 4 3 ∷ []
