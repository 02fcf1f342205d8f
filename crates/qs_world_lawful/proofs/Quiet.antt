-- Of a transaction a client's answer changes only what is open towards its peers, of which nothing is held.
use Rattle.qs_world_lawful.proofs.Words.{◌≡◌, ℕ, List, [], ◌∷◌, Option, Some, None, refl, sym, subst, ◌∙◌, fold, option_map, is_at, tid_cmp, Member, NodeNo, Tid, TransactionValue, heard, BookValue, find_transaction, hear, inc_at, Asking, MemberPart, Participant, changed_alike, ServerNo, Delivery, ServersValue, HoldsWaits, HoldsWaitsAt, HoldsMember, HoldsHome, HoldsTid, HoldsAt, same_Some}
use Rattle.qs_world_lawful.specs.Face.{Face}

-- without what is open towards its peers
abbrev pub quiet : TransactionValue → TransactionValue
quiet tx = record tx { peers = [] }

member_quiet : (tx : TransactionValue) (member : Member) (inc : ℕ) (m : MemberPart) → HoldsMember tx member inc m → HoldsMember (quiet tx) member inc m
member_quiet tx member inc m h = record { covers = h.covers; voted = h.voted; votes = h.votes; learns = h.learns; ends = h.ends }

member_heard : (tx : TransactionValue) (member : Member) (inc : ℕ) (m : MemberPart) → HoldsMember (quiet tx) member inc m → HoldsMember tx member inc m
member_heard tx member inc m h = record { covers = h.covers; voted = h.voted; votes = h.votes; learns = h.learns; ends = h.ends }

home_quiet : (tx : TransactionValue) (known : Option Participant) → HoldsHome tx known → HoldsHome (quiet tx) known
home_quiet tx known h = record { runs = h.runs; undecided = h.undecided; asked = h.asked }

home_heard : (tx : TransactionValue) (known : Option Participant) → HoldsHome (quiet tx) known → HoldsHome tx known
home_heard tx known h = record { runs = h.runs; undecided = h.undecided; asked = h.asked }

tid_quiet : (here : NodeNo) (inc : ℕ) (tid : Tid) (tx : TransactionValue) (face : Face) → HoldsTid here inc tid tx face → HoldsTid here inc tid (quiet tx) face
tid_quiet here inc tid tx face h = record {
  sized = h.sized;
  members = λ held server kept. member_quiet tx _ inc _ (h.members held server kept);
  asked = h.asked;
  outcome = h.outcome;
  silent = h.silent;
  local = h.local;
  sent = h.sent;
  pending = h.pending;
  noted = h.noted;
  queued = h.queued;
  made = h.made;
  yielded = h.yielded;
  home = λ at in_inc. home_quiet tx face.known (h.home at in_inc);
}

tid_heard : (here : NodeNo) (inc : ℕ) (tid : Tid) (tx : TransactionValue) (face : Face) → HoldsTid here inc tid (quiet tx) face → HoldsTid here inc tid tx face
tid_heard here inc tid tx face h = record {
  sized = h.sized;
  members = λ held server kept. member_heard tx _ inc _ (h.members held server kept);
  asked = h.asked;
  outcome = h.outcome;
  silent = h.silent;
  local = h.local;
  sent = h.sent;
  pending = h.pending;
  noted = h.noted;
  queued = h.queued;
  made = h.made;
  yielded = h.yielded;
  home = λ at in_inc. home_heard tx face.known (h.home at in_inc);
}

-- what is held of a transaction is held of one that is alike but for that
pub at_quiet : (here : NodeNo) (inc : ℕ) (tid : Tid) (o new : Option TransactionValue) (face : Face) → option_map quiet new ≡ option_map quiet o → HoldsAt here inc tid o face → HoldsAt here inc tid new face
at_quiet here inc tid None None face same h = h
at_quiet here inc tid None (Some y) face same h = absurd (cc same)
at_quiet here inc tid (Some x) None face same h = absurd (cc same)
at_quiet here inc tid (Some x) (Some y) face same h = tid_heard here inc tid y face (subst (λ (tx : TransactionValue). HoldsTid here inc tid tx face) (sym (same_Some (quiet y) (quiet x) same)) (tid_quiet here inc tid x face h))

-- and so of what waits
pub waits_quiet : (here : NodeNo) (inc : ℕ) (tid : Tid) (o new : Option TransactionValue) (waiting : ServerNo → List Delivery) (servers : ServersValue) → option_map quiet new ≡ option_map quiet o → HoldsWaitsAt here inc tid o waiting servers → HoldsWaitsAt here inc tid new waiting servers
waits_quiet here inc tid None None waiting servers same h = h
waits_quiet here inc tid None (Some y) waiting servers same h = absurd (cc same)
waits_quiet here inc tid (Some x) None waiting servers same h = absurd (cc same)
waits_quiet here inc tid (Some x) (Some y) waiting servers same h =
    heard_waits y (subst (λ (tx : TransactionValue). HoldsWaits here inc tid tx waiting servers) (sym (same_Some (quiet y) (quiet x) same)) (quiet_waits x h))
  where
    quiet_waits : (tx : TransactionValue) → HoldsWaits here inc tid tx waiting servers → HoldsWaits here inc tid (quiet tx) waiting servers
    quiet_waits tx k = record { whole = k.whole; due = k.due; within = k.within; once = k.once; fits = k.fits }

    heard_waits : (tx : TransactionValue) → HoldsWaits here inc tid (quiet tx) waiting servers → HoldsWaits here inc tid tx waiting servers
    heard_waits tx k = record { whole = k.whole; due = k.due; within = k.within; once = k.once; fits = k.fits }

-- ---- the answers that end the wait for requests

module _ {Y : Type 0} (g : TransactionValue → Y) (keeps : (node : NodeNo) (inc : ℕ) (tx : TransactionValue) → g (heard node inc tx) ≡ g tx) where
  pub all_heard : (waiting : List Asking) (book : BookValue) (t : Tid) → option_map g (find_transaction (fold hear book waiting) t) ≡ option_map g (find_transaction book t)
  all_heard [] book t = refl
  all_heard (asking ∷ waiting) book t =
      all_heard waiting (hear book asking) t
      ∙ changed_alike (is_at (tid_cmp asking.tid)) g (heard asking.node (inc_at book asking.node)) (keeps asking.node (inc_at book asking.node)) (is_at (tid_cmp t)) book.transactions

pub heard_nodes : (waiting : List Asking) (book : BookValue) → (fold hear book waiting).nodes ≡ book.nodes
heard_nodes [] book = refl
heard_nodes (asking ∷ waiting) book = heard_nodes waiting (hear book asking)

pub heard_owners : (waiting : List Asking) (book : BookValue) → (fold hear book waiting).owners ≡ book.owners
heard_owners [] book = refl
heard_owners (asking ∷ waiting) book = heard_owners waiting (hear book asking)

pub heard_labels : (waiting : List Asking) (book : BookValue) → (fold hear book waiting).labels ≡ book.labels
heard_labels [] book = refl
heard_labels (asking ∷ waiting) book = heard_labels waiting (hear book asking)
