-- What is seen of a transaction after a move, from what was seen before it.
use Rattle.qs_world_refine.proofs.Words.{◌≡◌, ◌≢◌, ℕ, ◌==◌, ◌&&◌, not, Bool, true, false, List, [], ◌∷◌, ◌++◌, drop, fold, length, map, Option, Some, None, refl, sym, ap, ◌∙◌, if◌then◌else◌, eqb-true, Tid, Channels, CrashCause, Message, Record, recovery, found_record, Work, accept, Source, Commanded, Handed, Queues, Clock, Noticed, hand_next, taken_by, log_after, stepped_host, stopped_host, risen_host, reopened, stopped, risen, next_parcel, Host, Parcel, IsCut, Said, all_said, sight_logged}
use Rattle.qs_world_refine.proofs.Words.{taken_scene, face_at, known_place, message_of, scene_of, sight, Sight, ShowsSight}
use Rattle.qs_session_channels.specs.Laws.{IsOrdered}
use Rattle.qs_session_channels.specs.Network.{with_at}
use Rattle.qs_world.specs.Moves as moves
use Rattle.qs_world.specs.Moves.{met}
use Rattle.qs_world.specs.World.{World}
use Rattle.qs_world_agree.specs.World as machine
use Rattle.qs_world_refine.specs.Shows.{sent_to}
use Rattle.qs_world_refine.specs.StepLaws.{stepped}
use Rattle.qs_world_refine.proofs.Alike.{SameFace, SameFound, SameSight, same_itself, found_itself}
use Rattle.qs_world_refine.proofs.Channelled.{four_at, two_at}
use Rattle.qs_world_refine.proofs.Posted.{parcels, parcels_say, inc_all, up_all, peer_all, handed_all, posted_all, waits_all}
use Rattle.qs_world_refine.proofs.SaysOn.{append_three}
use Rattle.qs_world_refine.proofs.Sending.{append_nil, said_append}

-- ---- lists

pub drop_front : {A : Type 0} (front rest : List A) → drop (length front) (front ++ rest) ≡ rest
drop_front [] rest = refl
drop_front (x ∷ front) rest = drop_front front rest

pub drop_none : {A : Type 0} (front nothing : List A) → nothing ≡ [] → drop (length front) nothing ≡ []
drop_none [] nothing is = is
drop_none (x ∷ front) [] is = refl
drop_none (x ∷ front) (y ∷ rest) is = absurd (cc (is))

map_more : {A B : Type 0} (f : A → B) (xs ys : List A) → map f (xs ++ ys) ≡ map f xs ++ map f ys
map_more f [] ys = refl
map_more {A} {B} f (x ∷ xs) ys = ap (λ (l : List B). f x ∷ l) (map_more f xs ys)

-- what is put comes behind what is on its way
left_more : {A : Type 0} (front whole more : List A) → (rest : List A) × (whole ≡ front ++ rest) → drop (length front) (whole ++ more) ≡ drop (length front) whole ++ more
left_more {A} front whole more all =
    ap (λ (l : List A). drop (length front) (l ++ more)) all.1 ∙ (ap (drop (length front)) (append_three front all.0 more) ∙ (drop_front front (all.0 ++ more)
    ∙ sym (ap (λ (l : List A). drop (length front) l ++ more) all.1 ∙ ap (λ (l : List A). l ++ more) (drop_front front all.0))))

-- of nothing nothing was handed up
pub none_before : {A : Type 0} (front rest : List A) → [] ≡ front ++ rest → front ≡ []
none_before [] rest is = refl
none_before (x ∷ front) rest is = absurd (cc (is))

-- ---- what is known, place by place

pub knows_as : (tid : Tid) (x : Sight) (w : machine.World) (knows : ℕ → ℕ → ℕ) → ((a b : ℕ) → knows a b ≡ x.knows a b) → ShowsSight tid x w → ShowsSight tid (record x { knows = knows }) w
knows_as tid x w knows same shown = record {
  stage = record {
    small = shown.stage.small;
    numbered = shown.stage.numbered;
    home = shown.stage.home;
    nodes = shown.stage.nodes;
    classes = shown.stage.classes;
    present = shown.stage.present;
    up = shown.stage.up;
    peers = λ n m n_in m_in on. shown.stage.peers n m n_in m_in on ∙ ap (known_place m) (sym (same n m));
  };
  faces = shown.faces;
  links = shown.links;
  unmet = λ n m n_in m_in on none. shown.unmet n m n_in m_in on (sym (same n m) ∙ none);
  logs = shown.logs;
}

-- ---- what an event takes from the channels

module _ (world : World) (n : ℕ) where
  pub inc_taken : (source : Source) → (taken_by world n source).inc ≡ world.channels.inc
  inc_taken (Commanded k) = refl
  inc_taken (Handed m) = by (next_parcel world n m)
    where
      by : (o : Option Parcel) → (hand_next n m o world.channels).inc ≡ world.channels.inc
      by None = refl
      by (Some parcel) = refl
  inc_taken Queues = refl
  inc_taken Clock = refl
  inc_taken (Noticed m new) = refl

  pub up_taken : (source : Source) → (taken_by world n source).up ≡ world.channels.up
  up_taken (Commanded k) = refl
  up_taken (Handed m) = by (next_parcel world n m)
    where
      by : (o : Option Parcel) → (hand_next n m o world.channels).up ≡ world.channels.up
      by None = refl
      by (Some parcel) = refl
  up_taken Queues = refl
  up_taken Clock = refl
  up_taken (Noticed m new) = refl

  pub waits_taken : (source : Source) → (taken_by world n source).waits ≡ world.channels.waits
  waits_taken (Commanded k) = refl
  waits_taken (Handed m) = by (next_parcel world n m)
    where
      by : (o : Option Parcel) → (hand_next n m o world.channels).waits ≡ world.channels.waits
      by None = refl
      by (Some parcel) = refl
  waits_taken Queues = refl
  waits_taken Clock = refl
  waits_taken (Noticed m new) = refl

  pub posted_taken : (source : Source) → (taken_by world n source).posted ≡ world.channels.posted
  posted_taken (Commanded k) = refl
  posted_taken (Handed m) = by (next_parcel world n m)
    where
      by : (o : Option Parcel) → (hand_next n m o world.channels).posted ≡ world.channels.posted
      by None = refl
      by (Some parcel) = refl
  posted_taken Queues = refl
  posted_taken Clock = refl
  posted_taken (Noticed m new) = refl

  -- to other nodes nothing was handed up
  handed_taken : (source : Source) (a b i j : ℕ) → b ≢ n → (taken_by world n source).handed a b i j ≡ world.channels.handed a b i j
  handed_taken (Commanded k) a b i j other = refl
  handed_taken (Handed m) a b i j other = by (next_parcel world n m)
    where
      by : (o : Option Parcel) → (hand_next n m o world.channels).handed a b i j ≡ world.channels.handed a b i j
      by None = refl
      by (Some parcel) = four_at (λ (l : List Parcel). l ≡ world.channels.handed a b i j) world.channels.handed m n (world.channels.peer n m) (world.channels.inc n) (world.channels.handed m n (world.channels.peer n m) (world.channels.inc n) ++ parcel ∷ []) a b i j
          (λ is. absurd (other is.second)) (λ _. refl)
  handed_taken Queues a b i j other = refl
  handed_taken Clock a b i j other = refl
  handed_taken (Noticed m new) a b i j other = refl

  -- and other nodes know what they knew
  pub peer_taken : (source : Source) (a b : ℕ) → a ≢ n → (taken_by world n source).peer a b ≡ world.channels.peer a b
  peer_taken (Commanded k) a b other = refl
  peer_taken (Handed m) a b other = by (next_parcel world n m)
    where
      by : (o : Option Parcel) → (hand_next n m o world.channels).peer a b ≡ world.channels.peer a b
      by None = refl
      by (Some parcel) = refl
  peer_taken Queues a b other = refl
  peer_taken Clock a b other = refl
  peer_taken (Noticed m new) a b other = two_at (λ (k : ℕ). k ≡ world.channels.peer a b) world.channels.peer n m new a b (λ is _. absurd (other is)) (λ _. refl)

-- ---- one host changes

pub face_with : (tid : Tid) (world : World) (n : ℕ) (host : Host) (k : ℕ) → k ≢ n → face_at (with_at world.hosts n host k).node tid ≡ face_at (world.hosts k).node tid
face_with tid world n host k other = by (k == n) refl
  where
    by : (b : Bool) → (k == n) ≡ b → face_at (if b then host else world.hosts k).node tid ≡ face_at (world.hosts k).node tid
    by true is = absurd (other (eqb-true k n is))
    by false is = refl

-- ---- a whole step

module _ (tid : Tid) (world : World) (n stamp : ℕ) (source : Source) (work : Work) where
  abbrev taken : Channels Parcel
  taken = taken_by world n source

  abbrev after : World
  after = moves.stepped world n stamp source (accept work.node) work.out

  pub step_sight : IsOrdered taken → SameSight tid (sight tid (stepped (taken_scene world n source) n work (log_after (world.hosts n) work.out))) (sight tid (scene_of after))
  step_sight ordered = record {
    size = refl;
    inc = inc_all n stamp work.out.messages taken;
    up = up_all n stamp work.out.messages taken;
    knows = peer_all n stamp work.out.messages taken;
    face = λ k. face k (k == n);
    said = λ a i b j. ap (all_said tid) (pending a i b j);
    unmet = λ a b. ap (all_said tid) (unmet a b);
    found = λ k. found k (k == n);
  }
    where
      face : (k : ℕ) (b : Bool) → SameFace (face_at (if b then accept work.node else (world.hosts k).node) tid) (face_at (if b then stepped_host stamp (accept work.node) work.out (world.hosts n) else world.hosts k).node tid)
      face k true = same_itself (face_at (accept work.node) tid)
      face k false = same_itself (face_at (world.hosts k).node tid)

      found : (k : ℕ) (b : Bool) → SameFound tid (recovery (if b then log_after (world.hosts n) work.out else (world.hosts k).log)) (recovery (if b then stepped_host stamp (accept work.node) work.out (world.hosts n) else world.hosts k).log)
      found k true = found_itself tid (recovery (log_after (world.hosts n) work.out))
      found k false = found_itself tid (recovery (world.hosts k).log)

      behind : (c : Bool) (front whole : List Parcel) (b : ℕ) → (rest : List Parcel) × (whole ≡ front ++ rest)
          → map message_of (drop (length front) (if c then whole ++ parcels n stamp b work.out.messages else whole)) ≡ (if c then map message_of (drop (length front) whole) ++ sent_to b work.out.messages else map message_of (drop (length front) whole))
      behind true front whole b all = ap (map message_of) (left_more front whole (parcels n stamp b work.out.messages) all)
          ∙ (map_more message_of (drop (length front) whole) (parcels n stamp b work.out.messages) ∙ ap (λ (l : List Message). map message_of (drop (length front) whole) ++ l) (parcels_say n stamp b work.out.messages))
      behind false front whole b all = refl

      pending : (a i b j : ℕ) → (scene_of after).pending a i b j ≡ (stepped (taken_scene world n source) n work (log_after (world.hosts n) work.out)).pending a i b j
      pending a i b j = rw (handed_all n stamp work.out.messages taken, posted_all n stamp work.out.messages taken a b i j)
          (behind ((a == n) && ((i == taken.inc n) && ((j == taken.peer n b) && not (j == 0)))) (taken.handed a b i j) (taken.posted a b i j) b (ordered a b i j))

      waiting : (c : Bool) (whole : List Parcel) (b : ℕ) → map message_of (if c then whole ++ parcels n stamp b work.out.messages else whole) ≡ (if c then map message_of whole ++ sent_to b work.out.messages else map message_of whole)
      waiting true whole b = map_more message_of whole (parcels n stamp b work.out.messages) ∙ ap (λ (l : List Message). map message_of whole ++ l) (parcels_say n stamp b work.out.messages)
      waiting false whole b = refl

      unmet : (a b : ℕ) → (scene_of after).unmet a b ≡ (stepped (taken_scene world n source) n work (log_after (world.hosts n) work.out)).unmet a b
      unmet a b = rw (waits_all n stamp work.out.messages taken a b) (waiting ((a == n) && (taken.peer n b == 0)) (taken.waits a b) b)

  -- it is cut off with its batch on the disk: what it put is lost, and so is what it took
  pub whole_cut : (cause : CrashCause) (log : List Record) → IsCut (sight tid (stepped (taken_scene world n source) n work log)) (sight tid (scene_of (stopped world n stamp cause log))) n
  whole_cut cause log = record {
    size = refl;
    inc = sym (inc_taken world n source);
    knows = λ a b other. sym (peer_taken world n source a b other);
    found = λ k. found k (k == n);
    up = λ k. ap (λ (f : ℕ → Bool). if k == n then false else f k) (sym (up_taken world n source));
    faces = λ k other. face_with tid world n (stopped_host stamp log (world.hosts n)) k other ∙ face k other (k == n) refl;
    unmet = λ a b other. ap (all_said tid) (unmet a b other (a == n) refl);
    said_other = λ a k b l apart other. ap (all_said tid) (untouched a k b l apart other (a == n) refl (k == taken.inc n) refl);
    said_cut = λ b l other. cut b l other ((n == n) && ((taken.inc n == taken.inc n) && ((l == taken.peer n b) && not (l == 0))));
  }
    where
      found : (k : ℕ) (b : Bool) → recovery (if b then stopped_host stamp log (world.hosts n) else world.hosts k).log ≡ recovery (if b then log else (world.hosts k).log)
      found k true = refl
      found k false = refl

      face : (k : ℕ) → k ≢ n → (b : Bool) → (k == n) ≡ b → face_at (world.hosts k).node tid ≡ face_at (if b then accept work.node else (world.hosts k).node) tid
      face k other true is = absurd (other (eqb-true k n is))
      face k other false is = refl

      unmet : (a b : ℕ) → a ≢ n → (c : Bool) → (a == n) ≡ c → map message_of (world.channels.waits a b) ≡ (if c && (taken.peer n b == 0) then map message_of (taken.waits a b) ++ sent_to b work.out.messages else map message_of (taken.waits a b))
      unmet a b other true is = absurd (other (eqb-true a n is))
      unmet a b other false is = ap (λ (f : ℕ → ℕ → List Parcel). map message_of (f a b)) (sym (waits_taken world n source))

      -- what is on its way to other nodes
      same_left : (a k b l : ℕ) → b ≢ n → map message_of (drop (length (world.channels.handed a b k l)) (world.channels.posted a b k l)) ≡ map message_of (drop (length (taken.handed a b k l)) (taken.posted a b k l))
      same_left a k b l other = rw (handed_taken world n source a b k l other, posted_taken world n source) refl

      untouched : (a k b l : ℕ) → (a ≡ n → k ≡ taken.inc n → ⊥) → b ≢ n → (c : Bool) → (a == n) ≡ c → (d : Bool) → (k == taken.inc n) ≡ d
          → map message_of (drop (length (world.channels.handed a b k l)) (world.channels.posted a b k l)) ≡ (if c && (d && ((l == taken.peer n b) && not (l == 0))) then map message_of (drop (length (taken.handed a b k l)) (taken.posted a b k l)) ++ sent_to b work.out.messages else map message_of (drop (length (taken.handed a b k l)) (taken.posted a b k l)))
      untouched a k b l apart other true is true at = absurd (apart (eqb-true a n is) (eqb-true k (taken.inc n) at))
      untouched a k b l apart other true is false at = same_left a k b l other
      untouched a k b l apart other false is d at = same_left a k b l other

      cut : (b l : ℕ) → b ≢ n → (c : Bool) → (more : List Said) × (all_said tid (if c then map message_of (drop (length (taken.handed n b (taken.inc n) l)) (taken.posted n b (taken.inc n) l)) ++ sent_to b work.out.messages else map message_of (drop (length (taken.handed n b (taken.inc n) l)) (taken.posted n b (taken.inc n) l)))
          ≡ all_said tid (map message_of (drop (length (world.channels.handed n b (taken.inc n) l)) (world.channels.posted n b (taken.inc n) l))) ++ more)
      cut b l other true = (all_said tid (sent_to b work.out.messages), rw (same_left n (taken.inc n) b l other) (said_append tid (map message_of (drop (length (taken.handed n b (taken.inc n) l)) (taken.posted n b (taken.inc n) l))) (sent_to b work.out.messages)))
      cut b l other false = ([], rw (same_left n (taken.inc n) b l other) (sym (append_nil (all_said tid (map message_of (drop (length (taken.handed n b (taken.inc n) l)) (taken.posted n b (taken.inc n) l)))))))

-- ---- a node stops, with more records on its disk or none

pub stop_cut : (tid : Tid) (world : World) (n stamp : ℕ) (cause : CrashCause) (log more : List Record) → recovery log ≡ fold found_record (recovery (world.hosts n).log) more
    → IsCut (sight_logged (sight tid (scene_of world)) n more) (sight tid (scene_of (stopped world n stamp cause log))) n
stop_cut tid world n stamp cause log more says = record {
  size = refl;
  inc = refl;
  knows = λ a b other. refl;
  found = λ k. found k (k == n);
  up = λ k. refl;
  faces = λ k other. face_with tid world n (stopped_host stamp log (world.hosts n)) k other;
  unmet = λ a b other. refl;
  said_other = λ a k b l apart other. refl;
  said_cut = λ b l other. ([], sym (append_nil (all_said tid ((scene_of world).pending n (world.channels.inc n) b l))));
}
  where
    found : (k : ℕ) (b : Bool) → recovery (if b then stopped_host stamp log (world.hosts n) else world.hosts k).log ≡ (if b then fold found_record (recovery (world.hosts n).log) more else recovery (world.hosts k).log)
    found k true = says
    found k false = refl
