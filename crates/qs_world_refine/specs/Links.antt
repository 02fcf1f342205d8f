-- What is on its way from a place to a place, of one transaction.
use Rattle.std.specs.Prelude.{◌≡◌, ◌⊎◌, ℕ, ◌+◌, ◌≤◌, ◌==◌, Bool, true, false, List, [], ◌∷◌}
use Rattle.std.specs.List.{list_any}
use Rattle.qs_base.specs.declared.identifiers.NodeNo.{NodeNo}
use Rattle.qs_engage.specs.Nodes.{same_node}
use Rattle.qs_world_agree.specs.World.{World, Open, Committed, Aborted}

abbrev pub node_no : ℕ → NodeNo
node_no n = record { 0 = n }

-- a list names the node
abbrev pub names_node : List NodeNo → NodeNo → Bool
names_node nodes node = list_any (same_node node) nodes

-- what a message says of the transaction to the machine
pub data Said : Type 0 where
  Requested : ℕ → ℕ → Said  -- its number, its server
  Closed : ℕ → List NodeNo → Said  -- Covered or VotedYes: its number, its told set
  Outcome_told : Bool → Said  -- a Tell; true on commit
  Taken_in : List NodeNo → Said  -- a Told, with its names
  Inquired : Said

-- a link as the machine has it: up to which number each kind was handed up, and up to which it was put
pub record Link : Type 0 where
  pub live : Bool  -- its sender runs; else what was put may be more than what is on its way
  pub received : ℕ
  pub posted : ℕ
  pub server : ℕ → ℕ  -- of the request with that number
  pub taken : ℕ
  pub closers : ℕ
  pub closer : ℕ → ℕ
  pub closer_set : ℕ → ℕ → Bool
  pub to_home : Bool  -- it leads to the home's node: inquiries go nowhere else, and are counted there alone
  pub inquiry_taken : ℕ
  pub inquiry_put : ℕ
  pub tell_commit : Bool
  pub tell_abort : Bool
  pub ack_put : Bool
  pub aborted : Bool  -- abort is decided
  pub named : ℕ → Bool

abbrev pub is_aborted : World → Bool
is_aborted w = elim w.cell [ Aborted ↦ true | Open ↦ false | Committed ↦ false ]

abbrev pub link : World → ℕ → ℕ → Link
link w p q = record {
  live = w.up p;
  received = w.received q p;
  posted = w.posted p q;
  server = w.server_of p (w.node q);
  taken = w.closers_taken q p;
  closers = w.closers p q;
  closer = w.closer p q;
  closer_set = w.closer_set p q;
  to_home = w.node q == w.node w.home;
  inquiry_taken = w.inquiry_taken q p;
  inquiry_put = w.inquiry_put p q;
  tell_commit = w.tell_commit (w.node q);
  tell_abort = w.tell_abort (w.node q);
  ack_put = w.ack_put p;
  aborted = is_aborted w;
  named = w.named p;
}

-- what waits for a node that is not known: a link that begins at nothing and ends at all that was sent
abbrev pub waiting_link : World → ℕ → ℕ → Link
waiting_link w p m = record (link w p 0) {
  received = 0;
  posted = w.sent p m;
  server = w.server_of p m;
  taken = 0;
  closers = 0;
  to_home = m == w.node w.home;
  inquiry_taken = 0;
  inquiry_put = w.inquiries p;
  tell_commit = w.tell_commit m;
  tell_abort = w.tell_abort m;
}

-- a Told was put for a commit and names nobody, or for an abort and names whom its place has drawn in
abbrev pub IsTaken : Link → List NodeNo → Type 0
IsTaken l further = ((l.ack_put ≡ true) × (further ≡ [])) ⊎ ((l.aborted ≡ true) × ((n : ℕ) → names_node further (node_no n) ≡ true → l.named n ≡ true))

abbrev pub IsTold : Link → Bool → Type 0
IsTold l true = l.tell_commit ≡ true
IsTold l false = l.tell_abort ≡ true

-- nothing more is on its way
pub record IsEmpty (l : Link) : Type 0 where
  pub requests : l.received ≤ l.posted
  pub closers : l.taken ≤ l.closers
  pub inquiries : l.to_home ≡ true → l.inquiry_taken ≤ l.inquiry_put
  pub all_requests : l.live ≡ true → l.received ≡ l.posted
  pub all_closers : l.live ≡ true → l.taken ≡ l.closers
  pub all_inquiries : l.live ≡ true → l.to_home ≡ true → l.inquiry_taken ≡ l.inquiry_put

-- what is on its way is what the machine has, message by message
abbrev pub IsLink : Link → List Said → Type 0
IsLink l [] = IsEmpty l
IsLink l (Requested number server ∷ rest) =
    (number ≡ l.received + 1) × (server ≡ l.server number) × IsLink (record l { received = l.received + 1 }) rest
IsLink l (Closed number told ∷ rest) =
    (number ≡ l.closer (l.taken + 1)) × ((n : ℕ) → l.closer_set (l.taken + 1) n ≡ names_node told (node_no n)) × IsLink (record l { taken = l.taken + 1 }) rest
IsLink l (Outcome_told commit ∷ rest) = IsTold l commit × IsLink l rest
IsLink l (Taken_in further ∷ rest) = IsTaken l further × IsLink l rest
IsLink l (Inquired ∷ rest) = IsLink (record l { inquiry_taken = l.inquiry_taken + 1 }) rest
