-- The lanes and the clients keep their numbers through carries, turns and visits.
use Rattle.std.proofs.Common.{◌≡◌, ◌∙◌, ap, inl, inr, refl, subst, sym, ℕ, zero, suc, Bool, true, false, List, [], ◌∷◌, Option, Some, None, Ok, map, if◌then◌else◌, slice_get}
use Rattle.std.specs.Prelude.{slice_set}
use Rattle.qs_base.specs.declared.identifiers.ClientNo.{ClientNo}
use Rattle.qs_cell.specs.Starts.{CellValue}
use Rattle.qs_session_channels.specs.Network.{Among}
use Rattle.qs_client.specs.declared.cell.ClientCell.{ClientCell}
use Rattle.qs_book_journal.specs.declared.script_line.LineAnswer.{LineAnswer}
use Rattle.qs_book_journal.specs.declared.script_line.ScriptLine.{ScriptLine}
use Rattle.qs_link.specs.Lanes.{CarriesIn, CarriesOut, at_client, ends_of, is_of, with_answers, with_commands}
use Rattle.qs_link.specs.declared.ends.NodeEnds.{NodeEnds}
use Rattle.qs_link.specs.Lane.{DrawValue, FeedValue}
use Rattle.qs_world_rounds.specs.Rounds.{CarriesAll}
use Rattle.qs_world_rounds.specs.Seats.{number_of}
use Rattle.qs_world_one.specs.Seats.{AreOfClients}
use Rattle.qs_world_one.specs.Seats.{HasCell}

abbrev pub end_number : NodeEnds → ClientNo
end_number end = end.client

abbrev pub numbers_of : List NodeEnds → List ClientNo
numbers_of ends = map end_number ends

-- ---- the lanes

at_numbers : (client : ClientNo) (f : NodeEnds → NodeEnds) → ((e : NodeEnds) → (f e).client ≡ e.client) → (ends : List NodeEnds) → numbers_of (at_client client f ends) ≡ numbers_of ends
at_numbers client f keeps [] = refl
at_numbers client f keeps (e ∷ es) = by (is_of client e) (at_numbers client f keeps es)
  where
    by : (b : Bool) → numbers_of (at_client client f es) ≡ numbers_of es → numbers_of (if b then f e ∷ es else e ∷ at_client client f es) ≡ e.client ∷ numbers_of es
    by true more = ap (λ (k : ClientNo). k ∷ numbers_of es) (keeps e)
    by false more = ap (λ (l : List ClientNo). e.client ∷ l) more

in_numbers : (client : ClientNo) (from after : FeedValue ScriptLine) (olds news : List NodeEnds) (held : ℕ) (o : Option NodeEnds) → CarriesIn client from after olds news (Ok held) o → numbers_of news ≡ numbers_of olds
in_numbers client from after olds news held None carries = ap numbers_of carries.0
in_numbers client from after olds news held (Some end) (commands, (is, on)) = ap numbers_of is ∙ at_numbers client (with_commands commands) (λ e. refl) olds

out_numbers : (client : ClientNo) (to after : DrawValue LineAnswer) (olds news : List NodeEnds) (held : ℕ) (o : Option NodeEnds) → CarriesOut client to after olds news (Ok held) o → numbers_of news ≡ numbers_of olds
out_numbers client to after olds news held None carries = ap numbers_of carries.0
out_numbers client to after olds news held (Some end) (answers, (is, on)) = ap numbers_of is ∙ at_numbers client (with_answers answers) (λ e. refl) olds

pub carried_numbers : {D : Type 0} (old new : CellValue D) (befores afters : List ClientCell) → CarriesAll old new befores afters → numbers_of new.seat.ends ≡ numbers_of old.seat.ends
carried_numbers old new [] [] same = ap (λ (c : CellValue _). numbers_of c.seat.ends) same
carried_numbers old new [] (a ∷ more) carries = absurd carries
carried_numbers old new (b ∷ bs) [] carries = absurd carries
carried_numbers old new (b ∷ bs) (a ∷ more) (mid, (both, rest)) =
    carried_numbers mid new bs more rest
    ∙ (out_numbers b.client b.answers a.answers both.mid.seat.ends mid.seat.ends both.heard (ends_of b.client both.mid.seat.ends) both.answers
    ∙ in_numbers b.client b.commands a.commands old.seat.ends both.mid.seat.ends both.held (ends_of b.client old.seat.ends) both.commands)

-- ---- the clients

pub clients_numbers : {D : Type 0} (old new : CellValue D) (befores afters : List ClientCell) → CarriesAll old new befores afters → map number_of afters ≡ map number_of befores
clients_numbers old new [] [] same = refl
clients_numbers old new [] (a ∷ more) carries = absurd carries
clients_numbers old new (b ∷ bs) [] carries = absurd carries
clients_numbers old new (b ∷ bs) (a ∷ more) (mid, (both, rest)) =
    ap (λ (k : ClientNo). k ∷ map number_of more) (ap (λ (x : ClientCell). x.client) both.client) ∙ ap (λ (l : List ClientNo). b.client ∷ l) (clients_numbers mid new bs more rest)

pub set_numbers : (clients : List ClientCell) (at : ℕ) (old new : ClientCell) → slice_get clients at ≡ Some old → new.client ≡ old.client → map number_of (slice_set clients at new) ≡ map number_of clients
set_numbers [] at old new got same = refl
set_numbers (c ∷ clients) zero old new got same = ap (λ (k : ClientNo). k ∷ map number_of clients) (same ∙ ap (λ (x : ClientCell). x.client) (sym (one got)))
  where
    one : Some c ≡ Some old → c ≡ old
    one e = cc e
set_numbers (c ∷ clients) (suc at) old new got same = ap (λ (l : List ClientNo). c.client ∷ l) (set_numbers clients at old new got same)

-- ---- so each lane is still of a client

in_map : {A B : Type 0} (f : A → B) (xs : List A) (x : A) → Among xs x → Among (map f xs) (f x)
in_map f [] x there = absurd there
in_map f (y ∷ xs) x (inl is) = inl (ap f is)
in_map f (y ∷ xs) x (inr there) = inr (in_map f xs x there)

cell_of : (clients : List ClientCell) (k : ClientNo) → Among (map number_of clients) k → HasCell k clients
cell_of [] k there = absurd there
cell_of (c ∷ clients) k (inl is) = record { cell = c; there = inl refl; is = is }
cell_of (c ∷ clients) k (inr there) = let it : HasCell k clients = cell_of clients k there in record { cell = it.cell; there = inr it.there; is = it.is }

of_each : (ends : List NodeEnds) (clients : List ClientCell) → AreOfClients ends clients → (k : ClientNo) → Among (numbers_of ends) k → Among (map number_of clients) k
of_each [] clients all k there = absurd there
of_each (e ∷ ends) clients all k (inl is) =
    let it : HasCell e.client clients = all e (inl refl) in
    subst (λ (n : ClientNo). Among (map number_of clients) n) (it.is ∙ is) (in_map number_of clients it.cell it.there)
of_each (e ∷ ends) clients all k (inr there) = of_each ends clients (λ x at. all x (inr at)) k there

pub of_clients_on : (olds news : List NodeEnds) (befores afters : List ClientCell) → numbers_of news ≡ numbers_of olds → map number_of afters ≡ map number_of befores → AreOfClients olds befores → AreOfClients news afters
of_clients_on olds news befores afters lanes clients all end there = cell_of afters end.client
    (subst (λ (l : List ClientNo). Among l end.client) (sym clients) (of_each olds befores all end.client (subst (λ (l : List ClientNo). Among l end.client) lanes (in_map end_number news end there))))
