-- What all places hold of a transaction goes on as it changes: a request is issued, or served, a vote is cast, a loan is made, or given back.
use Rattle.qs_world_runs.proofs.Words.{◌≡◌, ◌⊎◌, inl, inr, ℕ, ◌+◌, ◌<◌, ◌≤◌, true, false, List, [], ◌∷◌, Option, Some, refl, sym, ap, subst, ◌∙◌, nat_cmp_total, tied_itself, Equal, is_at, IsTotalOrder, lookup, unwrap_or, member_cmp, Class, Member, ServerNo, Tid, life_equal, life_itself, IsRising, TransactionValue, agrees, agrees_in, changed_value, is_empty, life_cmp, no_part, request_cmp, Life, Part, Request, RequestNo, class_of, is_two_phase, AreIssued, Field, EachLives, EachPlaced, IsMember}
use Rattle.qs_world_runs.proofs.Words.{IsPlaced, IsPresent, Placed, asked, standing, waiting, le_le}
use Rattle.std.proofs.lemmas.Cmp.{on_total, then_total}
use Rattle.qs_base.specs.declared.identifiers.Class.TheVariants as classes
use Rattle.qs_book_laws.proofs.Requests.{request_exact}
use Rattle.qs_world_runs.proofs.Entries.{Each, each_changed, each_found, each_on, changed_rises}

-- ---- orders of keys

pub life_total : IsTotalOrder life_cmp
life_total = then_total (on_total (λ (l : Life). l.member) member_total) (on_total (λ (l : Life). l.inc) nat_cmp_total)
  where
    member_total : IsTotalOrder member_cmp
    member_total = then_total (on_total (λ (m : Member). m.node.0) nat_cmp_total) (on_total (λ (m : Member). m.server.0) nat_cmp_total)

pub request_equal : (r s : RequestNo) → request_cmp r s ≡ Equal → r ≡ s
request_equal r s is = request_exact r s (rw is refl)

pub request_self : (r : RequestNo) → request_cmp r r ≡ Equal
request_self r = rw (tied_itself nat_cmp_total r.link.from.0, tied_itself nat_cmp_total r.link.to.0, tied_itself nat_cmp_total r.number) refl

-- ---- a life, but for how the machine keeps it

pub record IsBare (field : Field) (l : Life) (part : Part) : Type 0 where
  pub member : IsMember l.member.server
  pub cast : is_two_phase (class_of l.member.server.0) ≡ true → part.covered ≡ part.voted
  pub made : class_of l.member.server.0 ≡ classes.Activity → part.made ≡ part.served
  pub lives : IsPresent field l ⊎ (agrees (l, part) ≡ true)

abbrev pub EachBare : Field → List (Life × Part) → Type 0
EachBare field parts = Each life_cmp (IsBare field) parts

pub bare_lives : (tx : TransactionValue) (field : Field) (parts : List (Life × Part)) → EachLives tx field parts → EachBare field parts
bare_lives tx field [] all = tt
bare_lives tx field (entry ∷ entries) all = (record { member = all.0.member; cast = all.0.cast; made = all.0.made; lives = all.0.lives }, bare_lives tx field entries all.1)

pub lives_bare : (tx : TransactionValue) (field : Field) → IsRising life_cmp tx.parts → EachBare field tx.parts → EachLives tx field tx.parts
lives_bare tx field rising all = each tx.parts (each_found life_cmp life_total life_equal life_itself tx.parts rising) all
  where
    each : (parts : List (Life × Part)) → Each life_cmp (λ (l : Life) (part : Part). lookup (is_at (life_cmp l)) tx.parts ≡ Some part) parts → EachBare field parts → EachLives tx field parts
    each [] found all = tt
    each (entry ∷ entries) found all = (record { kept = ap (λ (o : Option Part). unwrap_or o no_part) found.0; member = all.0.member; cast = all.0.cast; made = all.0.made; lives = all.0.lives }, each entries found.1 all.1)

-- ---- requests as entries

pub placed_each : (tid : Tid) (field : Field) (entries : List (RequestNo × List Request)) → EachPlaced tid field entries → Each request_cmp (IsPlaced tid field) entries
placed_each tid field [] all = tt
placed_each tid field (entry ∷ entries) all = (all.0, placed_each tid field entries all.1)

pub each_placed : (tid : Tid) (field : Field) (entries : List (RequestNo × List Request)) → Each request_cmp (IsPlaced tid field) entries → EachPlaced tid field entries
each_placed tid field [] all = tt
each_placed tid field (entry ∷ entries) all = (all.0, each_placed tid field entries all.1)

-- ---- all of it, of its own lists

pub record PlacedIn (tid : Tid) (field : Field) (requests : List (RequestNo × List Request)) (parts : List (Life × Part)) : Type 0 where
  pub numbers : IsRising request_cmp requests
  pub members : IsRising life_cmp parts
  pub each : Each request_cmp (IsPlaced tid field) requests
  pub bare : EachBare field parts

pub placed_in : (tid : Tid) (tx : TransactionValue) (field : Field) → Placed tid tx field → PlacedIn tid field tx.requests tx.parts
placed_in tid tx field p = record { numbers = p.numbers; members = p.members; each = placed_each tid field tx.requests p.requests; bare = bare_lives tx field tx.parts p.lives }

pub placed_of : (tid : Tid) (tx : TransactionValue) (field : Field) → AreIssued tx field → is_empty tx.refusals ≡ true → is_empty tx.crossed ≡ true → PlacedIn tid field tx.requests tx.parts → Placed tid tx field
placed_of tid tx field issued unrefused uncrossed p = record {
  numbers = p.numbers;
  members = p.members;
  requests = each_placed tid field tx.requests p.each;
  issued = issued;
  lives = lives_bare tx field p.members p.bare;
  unrefused = unrefused;
  uncrossed = uncrossed;
}

-- ---- the same nodes, with as much room for requests

-- how many wait there, are on their way or kept back
abbrev pub there : Tid → Field → RequestNo → ServerNo → ℕ
there tid field at server = waiting tid field at server + (asked tid server at.number (field.sent at.link.from.0 at.link.to.0) + asked tid server at.number (field.kept at.link.from.0 at.link.to.0))

abbrev pub back : Tid → Field → RequestNo → ServerNo → ℕ
back tid field at server = asked tid server at.number (field.kept at.link.from.0 at.link.to.0)

-- nodes and incarnations are those of before
pub record SameNodes (old new : Field) : Type 0 where
  pub size : new.size ≡ old.size
  pub up : (k : ℕ) → new.up k ≡ old.up k
  pub inc : (k : ℕ) → new.inc k ≡ old.inc k

pub record HasRoom (tid : Tid) (old new : Field) (at : RequestNo) : Type 0 where
  pub runs : new.up at.link.to.0 ≡ true → (server : ServerNo) → there tid old at server ≤ there tid new at server
  pub stopped : new.up at.link.to.0 ≡ false → (server : ServerNo) → back tid old at server ≤ back tid new at server

pub record Grows (tid : Tid) (old new : Field) : Type 0 where
  pub nodes : SameNodes old new
  pub room : (at : RequestNo) → HasRoom tid old new at

pub bare_on : (old new : Field) → SameNodes old new → (l : Life) (part : Part) → IsBare old l part → IsBare new l part
bare_on old new same l part b = record { member = b.member; cast = b.cast; made = b.made; lives = by b.lives }
  where
    by : IsPresent old l ⊎ (agrees (l, part) ≡ true) → IsPresent new l ⊎ (agrees (l, part) ≡ true)
    by (inl present) = inl (record { in_run = subst (λ (k : ℕ). l.member.node.0 < k) (sym same.size) present.in_run; up = same.up l.member.node.0 ∙ present.up; now = present.now ∙ sym (same.inc l.member.node.0) })
    by (inr agreed) = inr agreed

pub placed_on : (tid : Tid) (old new : Field) → SameNodes old new → (at : RequestNo) → HasRoom tid old new at → (requests : List Request) → IsPlaced tid old at requests → IsPlaced tid new at requests
placed_on tid old new same at room requests p = record {
  from_in = subst (λ (k : ℕ). at.link.from.0 < k) (sym same.size) p.from_in;
  to_in = subst (λ (k : ℕ). at.link.to.0 < k) (sym same.size) p.to_in;
  there = p.there;
  runs = λ up server. le_le (standing at server requests) (there tid old at server) (there tid new at server) (p.runs (sym (same.up at.link.to.0) ∙ up) server) (room.runs up server);
  stopped = λ off server. le_le (standing at server requests) (back tid old at server) (back tid new at server) (p.stopped (sym (same.up at.link.to.0) ∙ off) server) (room.stopped off server);
}

pub in_grown : (tid : Tid) (old new : Field) → Grows tid old new → (requests : List (RequestNo × List Request)) (parts : List (Life × Part)) → PlacedIn tid old requests parts → PlacedIn tid new requests parts
in_grown tid old new g requests parts p = record {
  numbers = p.numbers;
  members = p.members;
  each = each_on request_cmp (IsPlaced tid old) (IsPlaced tid new) (λ at rs. placed_on tid old new g.nodes at (g.room at) rs) requests p.each;
  bare = each_on life_cmp (IsBare old) (IsBare new) (bare_on old new g.nodes) parts p.bare;
}

-- ---- a part changes

-- what it served, voted and covered, and its loans
pub record SameDeeds (a b : Part) : Type 0 where
  pub served : b.served ≡ a.served
  pub voted : b.voted ≡ a.voted
  pub covered : b.covered ≡ a.covered
  pub made : b.made ≡ a.made
  pub yielded : b.yielded ≡ a.yielded

same_agrees : (l : Life) (a b : Part) → SameDeeds a b → agrees (l, b) ≡ agrees (l, a)
same_agrees l a b s = by (class_of l.member.server.0)
  where
    by : (c : Class) → agrees_in c b ≡ agrees_in c a
    by classes.Recoverable = rw (s.covered, s.served) refl
    by classes.Volatile = rw (s.covered, s.served) refl
    by classes.Activity = rw (s.made, s.served, s.yielded) refl
    by classes.Immediate = refl
    by classes.Standard = refl
    by classes.Delayed = refl

pub bare_same : (field : Field) (l : Life) (a b : Part) → SameDeeds a b → IsBare field l a → IsBare field l b
bare_same field l a b s bare = record { member = bare.member; cast = λ two. s.covered ∙ (bare.cast two ∙ sym s.voted); made = λ is. s.made ∙ (bare.made is ∙ sym s.served); lives = by bare.lives }
  where
    by : IsPresent field l ⊎ (agrees (l, a) ≡ true) → IsPresent field l ⊎ (agrees (l, b) ≡ true)
    by (inl present) = inl present
    by (inr agreed) = inr (same_agrees l a b s ∙ agreed)

-- where it lives
pub in_part : (tid : Tid) (old new : Field) → Grows tid old new → (k : Life) (f : Part → Part) → ((part : Part) → IsBare old k part → IsBare new k (f part)) → (requests : List (RequestNo × List Request)) (parts : List (Life × Part)) → PlacedIn tid old requests parts
    → PlacedIn tid new requests (changed_value (is_at (life_cmp k)) f parts)
in_part tid old new g k f here requests parts p = record {
  numbers = p.numbers;
  members = changed_rises life_cmp life_total life_equal life_itself (is_at (life_cmp k)) f parts p.members;
  each = each_on request_cmp (IsPlaced tid old) (IsPlaced tid new) (λ at rs. placed_on tid old new g.nodes at (g.room at) rs) requests p.each;
  bare = each_changed life_cmp life_total life_equal life_itself (IsBare old) (IsBare new) k f (λ l u apart b. bare_on old new g.nodes l u b) parts (λ u found b. here u b) p.members p.bare;
}
