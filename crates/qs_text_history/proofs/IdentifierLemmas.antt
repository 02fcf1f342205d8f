-- Identifiers, members and what a restart found have one spelling each.
use Rattle.std.proofs.Common.{◌≡◌, ◌<◌, ◌≤◌, inl, inr, ℕ, ◌+◌, ◌-◌, ◌^◌, ◌==◌, zero, suc, Bool, true, false, not, cond, List, ◌∷◌, ◌++◌, length, take, drop, Option, Some, None, refl, sym, ◌∙◌, ap, subst, arith, length-append}
use Rattle.std.specs.Prelude.{decimal, codes, nat_lt}
use Rattle.std.specs.List.{list_all}
use Rattle.std.proofs.lemmas.Bool.{lt-ltb, le-ltb, ltb-true}
use Rattle.std.proofs.lemmas.List.{take-append-drop}
use Rattle.std.proofs.lemmas.List.Folds.{list_all-append}
use Rattle.std.proofs.lemmas.Fmt.{decimal_nonempty}
use Rattle.qs_base.specs.Order.{same_bytes}
use Rattle.qs_base.proofs.Same.{same_bytes-true}
use Rattle.qs_base.specs.declared.identifiers.Member.{Member}
use Rattle.qs_base.specs.declared.identifiers.Tid.{Tid}
use Rattle.qs_book_journal.specs.declared.entry.Found.{Found}
use Rattle.qs_text_script.specs.Answers.{tid_text, server_text}
use Rattle.qs_text_script.specs.Journal.{part_text, member_text, pend_text, done_text}
use Rattle.qs_book_script.proofs.WordLemmas.{one_spelling}
use Rattle.qs_text_history.specs.Spelled.{IsTid, IsPart, IsMember, IsFound}
use Rattle.qs_book_script.specs.Numbers.{below}
use Rattle.qs_text_history.specs.Words.{is_letter, is_word}
use Rattle.qs_text_history.specs.Inner.Words.{wide_of, before, after, number_below, tid_of, tid_with, server_of, borrower_of, borrower_with, part_of, part_with, member_of, member_with, found_of, found_in, found_with, is_done, done_of}
use Rattle.qs_text_history.proofs.MarkLemmas.{free, before_mark, after_mark, cut_at, decimal_free, decimal_letters, marked_word, word_letters, word_from}
use Rattle.qs_text_history.proofs.NumberLemmas.{number_spelled, number_read}

-- ---- numbers of 64 bits

pub wide_read : (n : ℕ) → n < 2 ^ 64 → wide_of (decimal n) ≡ Some n
unfolding wide_of
wide_read n small = (one_spelling (decimal n) n).1 (small, refl)

pub wide_back : (word : List ℕ) (n : ℕ) → wide_of word ≡ Some n → (n < 2 ^ 64) × (word ≡ decimal n)
unfolding wide_of
wide_back word n e = (one_spelling word n).0 e

some_digits : (word : List ℕ) (n : ℕ) → n < 2 ^ 64 → word ≡ decimal n → 0 < length word
some_digits word n small e = rw e (decimal_nonempty n small)

behind_some : (front back : List ℕ) (mark : ℕ) (word : List ℕ) → word ≡ front ++ mark ∷ back → 0 < length word
behind_some front back mark word e = rw e (omega (arith, length-append front (mark ∷ back)))

-- ---- identifiers

tid_by_parts : (word home rest inc seq : List ℕ) → before 46 word ≡ home → after 46 word ≡ rest → before 46 rest ≡ inc → after 46 rest ≡ seq
    → tid_of word ≡ tid_with (number_below 256 home) (wide_of inc) (number_below (2 ^ 32) seq)
unfolding tid_of
tid_by_parts word home rest inc seq h r i s = rw (← s, ← i, ← r, ← h) refl

pub tid_read : (tid : Tid) → IsTid tid → tid_of (tid_text tid) ≡ Some tid
tid_read tid is =
    let home : free 46 (decimal tid.home.0) ≡ true = decimal_free 46 tid.home.0 (inl (omega arith)) (omega (arith, is.home)) in
    let inc : free 46 (decimal tid.inc) ≡ true = decimal_free 46 tid.inc (inl (omega arith)) is.inc in
    let rest = decimal tid.inc ++ 46 ∷ decimal tid.seq in
    tid_by_parts (tid_text tid) (decimal tid.home.0) rest (decimal tid.inc) (decimal tid.seq)
    (before_mark 46 (decimal tid.home.0) rest home) (after_mark 46 (decimal tid.home.0) rest home)
    (before_mark 46 (decimal tid.inc) (decimal tid.seq) inc) (after_mark 46 (decimal tid.inc) (decimal tid.seq) inc)
    ∙ rw (number_read 256 tid.home.0 (omega arith) is.home, wide_read tid.inc is.inc, number_read (2 ^ 32) tid.seq (omega arith) is.seq) refl

tid_parts : (home inc seq : Option ℕ) (tid : Tid) → tid_with home inc seq ≡ Some tid → (home ≡ Some tid.home.0) × ((inc ≡ Some tid.inc) × (seq ≡ Some tid.seq))
tid_parts (Some home) (Some inc) (Some seq) tid e = let same : record { home = record { 0 = home }; inc = inc; seq = seq } ≡ tid = cc in rw (← same) (refl, (refl, refl))
tid_parts (Some home) (Some inc) None tid e = cc
tid_parts (Some home) None seq tid e = cc
tid_parts None inc seq tid e = cc

pub tid_back : (word : List ℕ) (tid : Tid) → tid_of word ≡ Some tid → IsTid tid × (word ≡ tid_text tid)
unfolding tid_of
tid_back word tid e =
    let p = tid_parts (number_below 256 (before 46 word)) (wide_of (before 46 (after 46 word))) (number_below (2 ^ 32) (after 46 (after 46 word))) tid e in
    let home = number_spelled 256 (before 46 word) tid.home.0 p.0 in
    let inc = wide_back (before 46 (after 46 word)) tid.inc p.1.0 in
    let seq = number_spelled (2 ^ 32) (after 46 (after 46 word)) tid.seq p.1.1 in
    let rest : after 46 word ≡ before 46 (after 46 word) ++ 46 ∷ after 46 (after 46 word) =
    cut_at 46 (after 46 word) (some_digits (after 46 (after 46 word)) tid.seq (omega (arith, seq.0)) seq.1) in
    let whole : word ≡ before 46 word ++ 46 ∷ after 46 word = cut_at 46 word (behind_some _ _ 46 (after 46 word) rest) in
    let tail : after 46 word ≡ decimal tid.inc ++ 46 ∷ decimal tid.seq = rest ∙ join (before 46 (after 46 word)) (decimal tid.inc) (after 46 (after 46 word)) (decimal tid.seq) inc.1 seq.1 in
    (record { home = home.0; inc = inc.0; seq = seq.0 }, whole ∙ join (before 46 word) (decimal tid.home.0) (after 46 word) (decimal tid.inc ++ 46 ∷ decimal tid.seq) home.1 tail)
  where
    join : (a b c d : List ℕ) → a ≡ b → c ≡ d → a ++ 46 ∷ c ≡ b ++ 46 ∷ d
    join a b c d p q = rw (p, q) refl

tid_letters : (tid : Tid) → IsTid tid → list_all is_letter (decimal tid.inc ++ 46 ∷ decimal tid.seq) ≡ true
tid_letters tid is = word_letters (decimal tid.inc ++ 46 ∷ decimal tid.seq) (marked_word 46 (decimal tid.inc) (decimal tid.seq) refl (decimal_letters tid.inc is.inc) (decimal_letters tid.seq (omega (arith, is.seq))))

pub tid_word : (tid : Tid) → IsTid tid → is_word (tid_text tid) ≡ true
tid_word tid is = marked_word 46 (decimal tid.home.0) (decimal tid.inc ++ 46 ∷ decimal tid.seq) refl (decimal_letters tid.home.0 (omega (arith, is.home))) (tid_letters tid is)

tid_unmarked : (tid : Tid) → IsTid tid → free 58 (tid_text tid) ≡ true
tid_unmarked tid is =
    rw (
      list_all-append (λ byte. not (byte == 58)) (decimal tid.home.0) (46 ∷ (decimal tid.inc ++ 46 ∷ decimal tid.seq)),
      list_all-append (λ byte. not (byte == 58)) (decimal tid.inc) (46 ∷ decimal tid.seq),
      decimal_free 58 tid.home.0 (inr (omega arith)) (omega (arith, is.home)),
      decimal_free 58 tid.inc (inr (omega arith)) is.inc,
      decimal_free 58 tid.seq (inr (omega arith)) (omega (arith, is.seq)),
    ) refl

-- ---- servers

-- the first test of a row that passes decides
pub chosen : {A : Type 0} (P : A → Type 0) (test : Bool) (this : A) (others : Option A) (found : A) → (test ≡ true → P this) → (others ≡ Some found → P found)
    → cond test (Some this) others ≡ Some found → P found
chosen P true this others found here later e = let same : this ≡ found = cc in subst P same (here refl)
chosen P false this others found here later e = later e

server_is : (word text : List ℕ) (server : ℕ) → server < 7 → text ≡ server_text server → same_bytes word text ≡ true → (server < 7) × (word ≡ server_text server)
server_is word text server small is e = (small, same_bytes-true word text e ∙ is)

pub server_back : (word : List ℕ) (server : ℕ) → server_of word ≡ Some server → (server < 7) × (word ≡ server_text server)
unfolding server_of
server_back word server e =
    let P = λ (s : ℕ). (s < 7) × (word ≡ server_text s) in
    chosen P _ 0 _ server (server_is word (codes "files") 0 (omega arith) refl)
    (chosen P _ 1 _ server (server_is word (codes "audit") 1 (omega arith) refl)
    (chosen P _ 2 _ server (server_is word (codes "names") 2 (omega arith) refl)
    (chosen P _ 3 _ server (server_is word (codes "timers") 3 (omega arith) refl)
    (chosen P _ 4 _ server (server_is word (codes "windows") 4 (omega arith) refl)
    (chosen P _ 5 _ server (server_is word (codes "scratch") 5 (omega arith) refl)
    (chosen P _ 6 _ server (server_is word (codes "extra") 6 (omega arith) refl) (λ none. cc))))))) e

pub server_read : (server : ℕ) → server < 7 → server_of (server_text server) ≡ Some server
unfolding server_of
server_read zero h = refl
server_read (suc zero) h = refl
server_read (suc (suc zero)) h = refl
server_read (suc (suc (suc zero))) h = refl
server_read (suc (suc (suc (suc zero)))) h = refl
server_read (suc (suc (suc (suc (suc zero))))) h = refl
server_read (suc (suc (suc (suc (suc (suc zero)))))) h = refl
server_read (suc (suc (suc (suc (suc (suc (suc n))))))) h = absurd (omega arith)

pub server_word : (server : ℕ) → server < 7 → is_word (server_text server) ≡ true
server_word zero h = refl
server_word (suc zero) h = refl
server_word (suc (suc zero)) h = refl
server_word (suc (suc (suc zero))) h = refl
server_word (suc (suc (suc (suc zero)))) h = refl
server_word (suc (suc (suc (suc (suc zero))))) h = refl
server_word (suc (suc (suc (suc (suc (suc zero)))))) h = refl
server_word (suc (suc (suc (suc (suc (suc (suc n))))))) h = absurd (omega arith)

server_unmarked : (server : ℕ) → server < 7 → free 64 (server_text server) ≡ true
server_unmarked zero h = refl
server_unmarked (suc zero) h = refl
server_unmarked (suc (suc zero)) h = refl
server_unmarked (suc (suc (suc zero))) h = refl
server_unmarked (suc (suc (suc (suc zero)))) h = refl
server_unmarked (suc (suc (suc (suc (suc zero))))) h = refl
server_unmarked (suc (suc (suc (suc (suc (suc zero)))))) h = refl
server_unmarked (suc (suc (suc (suc (suc (suc (suc n))))))) h = absurd (omega arith)

-- ---- borrowers

named : (server : ℕ) → server < 7 → part_text server ≡ server_text server
named server h = rw (lt-ltb server 32 (omega arith)) refl

borrowing : (server : ℕ) → 32 ≤ server → part_text server ≡ codes "client" ++ decimal (server - 32)
borrowing server h = rw (le-ltb server 32 h) refl

borrower_read : (client : ℕ) → client < 224 → part_of (codes "client" ++ decimal client) ≡ Some (client + 32)
unfolding part_of server_of
borrower_read client h = rw (number_read 256 client (omega arith) (omega arith), lt-ltb client 224 h) refl

pub part_read : (server : ℕ) → IsPart server → part_of (part_text server) ≡ Some server
unfolding part_of server_of
part_read server (inl h) = rw (named server h, server_read server h) refl
part_read server (inr h) =
    let client : server - 32 < 224 = omega (arith, h.0, h.1) in
    let same : server - 32 + 32 ≡ server = omega (arith, h.0) in
    rw (borrowing server h.0) (borrower_read (server - 32) client ∙ ap Some same)

borrower_parts : (client : Option ℕ) (server : ℕ) → borrower_with (below 224 client) ≡ Some server → (k : ℕ) × ((client ≡ Some k) × ((k < 224) × (k + 32 ≡ server)))
borrower_parts None server e = cc
borrower_parts (Some k) server e = small (nat_lt k 224) refl e
  where
    small : (b : Bool) → nat_lt k 224 ≡ b → borrower_with (cond b (Some k) None) ≡ Some server → (j : ℕ) × ((Some k ≡ Some j) × ((j < 224) × (j + 32 ≡ server)))
    small true t s = (k, (refl, (ltb-true k 224 t, cc)))
    small false t s = cc

client_word : (word : List ℕ) → same_bytes (take 6 word) (codes "client") ≡ true → word ≡ codes "client" ++ drop 6 word
client_word word e = sym (take-append-drop 6 word) ∙ ap (λ front. front ++ drop 6 word) (same_bytes-true (take 6 word) (codes "client") e)

borrowed : (server client : ℕ) (rest : List ℕ) → 32 ≤ server → server - 32 ≡ client → rest ≡ decimal client → codes "client" ++ rest ≡ part_text server
borrowed server client rest low same is = rw (borrowing server low, same, is) refl

borrower_back : (word : List ℕ) (server : ℕ) (b : Bool) → same_bytes (take 6 word) (codes "client") ≡ b → cond b (borrower_with (below 224 (number_below 256 (drop 6 word)))) None ≡ Some server
    → ((32 ≤ server) × (server < 256)) × (word ≡ part_text server)
borrower_back word server true t e =
    let p = borrower_parts (number_below 256 (drop 6 word)) server e in
    let n = number_spelled 256 (drop 6 word) p.0 p.1.0 in
    let low : 32 ≤ server = omega (arith, p.1.1.1) in
    let high : server < 256 = omega (arith, p.1.1.1, p.1.1.0) in
    let same : server - 32 ≡ p.0 = omega (arith, p.1.1.1) in
    ((low, high), client_word word t ∙ borrowed server p.0 (drop 6 word) low same n.1)
borrower_back word server false t e = cc

pub part_back : (word : List ℕ) (server : ℕ) → part_of word ≡ Some server → IsPart server × (word ≡ part_text server)
unfolding part_of
part_back word server e = by (server_of word) refl e
  where
    by : (named_one : Option ℕ) → server_of word ≡ named_one → part_with named_one (borrower_of word) ≡ Some server → IsPart server × (word ≡ part_text server)
    by (Some s) is p =
        let same : s ≡ server = cc in
        let b = server_back word server (is ∙ ap Some same) in
        (inl b.0, b.1 ∙ sym (named server b.0))
    by None is p = let b = borrower_back word server _ refl p in (inr b.0, b.1)

client_letters : (client : ℕ) → client < 2 ^ 64 → list_all is_letter (codes "client" ++ decimal client) ≡ true
client_letters client small = rw (decimal_letters client small) refl

part_letters : (server : ℕ) → IsPart server → list_all is_letter (part_text server) ≡ true
part_letters server (inl h) = rw (named server h) (word_letters (server_text server) (server_word server h))
part_letters server (inr h) = rw (borrowing server h.0) (client_letters (server - 32) (omega (arith, h.1)))

part_unmarked : (server : ℕ) → IsPart server → free 64 (part_text server) ≡ true
part_unmarked server (inl h) = rw (named server h) (server_unmarked server h)
part_unmarked server (inr h) = rw (borrowing server h.0, decimal_free 64 (server - 32) (inr (omega arith)) (omega (arith, h.1))) refl

-- ---- members

member_parts : (server node : Option ℕ) (member : Member) → member_with server node ≡ Some member → (server ≡ Some member.server.0) × (node ≡ Some member.node.0)
member_parts (Some server) (Some node) member e = let same : record { node = record { 0 = node }; server = record { 0 = server } } ≡ member = cc in rw (← same) (refl, refl)
member_parts (Some server) None member e = cc
member_parts None place member e = cc

pub member_read : (member : Member) → IsMember member → member_of (member_text member) ≡ Some member
unfolding member_of
member_read member is =
    let part : free 64 (part_text member.server.0) ≡ true = part_unmarked member.server.0 is.part in
    let front : before 64 (member_text member) ≡ part_text member.server.0 = before_mark 64 (part_text member.server.0) (decimal member.node.0) part in
    let back : after 64 (member_text member) ≡ decimal member.node.0 = after_mark 64 (part_text member.server.0) (decimal member.node.0) part in
    by (before 64 (member_text member)) (after 64 (member_text member)) front back
    ∙ rw (part_read member.server.0 is.part, number_read 256 member.node.0 (omega arith) is.node) refl
  where
    by : (f b : List ℕ) → f ≡ part_text member.server.0 → b ≡ decimal member.node.0
        → member_with (part_of f) (number_below 256 b) ≡ member_with (part_of (part_text member.server.0)) (number_below 256 (decimal member.node.0))
    by f b p q = rw (p, q) refl

pub member_back : (word : List ℕ) (member : Member) → member_of word ≡ Some member → IsMember member × (word ≡ member_text member)
unfolding member_of
member_back word member e =
    let p = member_parts (part_of (before 64 word)) (number_below 256 (after 64 word)) member e in
    let part = part_back (before 64 word) member.server.0 p.0 in
    let node = number_spelled 256 (after 64 word) member.node.0 p.1 in
    let whole : word ≡ before 64 word ++ 64 ∷ after 64 word = cut_at 64 word (some_digits (after 64 word) member.node.0 (omega (arith, node.0)) node.1) in
    (record { part = part.0; node = node.0 }, whole ∙ rw (part.1, node.1) refl)

pub member_word : (member : Member) → IsMember member → is_word (member_text member) ≡ true
member_word member is = marked_word 64 (part_text member.server.0) (decimal member.node.0) refl (part_letters member.server.0 is.part) (decimal_letters member.node.0 (omega (arith, is.node)))

-- ---- what a restart found

found_by_parts : (word tid rest server covers : List ℕ) → before 58 word ≡ tid → after 58 word ≡ rest → before 58 rest ≡ server → after 58 rest ≡ covers
    → found_in word ≡ found_with (tid_of tid) (number_below 256 server) (number_below (2 ^ 32) covers)
found_by_parts word tid rest server covers t r s c = rw (← c, ← s, ← r, ← t) refl

found_parts : (tid : Option Tid) (server covers : Option ℕ) (found : Found) → found_with tid server covers ≡ Some found
    → (tid ≡ Some found.tid) × ((server ≡ Some found.server.0) × (covers ≡ Some found.covers))
found_parts (Some tid) (Some server) (Some covers) found e =
    let same : record { tid = tid; server = record { 0 = server }; covers = covers } ≡ found = cc in rw (← same) (refl, (refl, refl))
found_parts (Some tid) (Some server) None found e = cc
found_parts (Some tid) None covers found e = cc
found_parts None server covers found e = cc

pub found_read : (found : Found) → IsFound found → found_of (pend_text found) ≡ Some found
unfolding found_of
found_read found is =
    let tid = tid_unmarked found.tid is.tid in
    let server = decimal_free 58 found.server.0 (inr (omega arith)) (omega (arith, is.server)) in
    let rest = decimal found.server.0 ++ 58 ∷ decimal found.covers in
    found_by_parts (tid_text found.tid ++ 58 ∷ rest) (tid_text found.tid) rest (decimal found.server.0) (decimal found.covers)
    (before_mark 58 (tid_text found.tid) rest tid) (after_mark 58 (tid_text found.tid) rest tid)
    (before_mark 58 (decimal found.server.0) (decimal found.covers) server) (after_mark 58 (decimal found.server.0) (decimal found.covers) server)
    ∙ rw (tid_read found.tid is.tid, number_read 256 found.server.0 (omega arith) is.server, number_read (2 ^ 32) found.covers (omega arith) is.covers) refl

found_in_back : (word : List ℕ) (found : Found) → found_in word ≡ Some found
    → IsFound found × (word ≡ tid_text found.tid ++ 58 ∷ (decimal found.server.0 ++ 58 ∷ decimal found.covers))
found_in_back word found e =
    let p = found_parts (tid_of (before 58 word)) (number_below 256 (before 58 (after 58 word))) (number_below (2 ^ 32) (after 58 (after 58 word))) found e in
    let tid = tid_back (before 58 word) found.tid p.0 in
    let server = number_spelled 256 (before 58 (after 58 word)) found.server.0 p.1.0 in
    let covers = number_spelled (2 ^ 32) (after 58 (after 58 word)) found.covers p.1.1 in
    let rest : after 58 word ≡ before 58 (after 58 word) ++ 58 ∷ after 58 (after 58 word) =
    cut_at 58 (after 58 word) (some_digits (after 58 (after 58 word)) found.covers (omega (arith, covers.0)) covers.1) in
    let whole : word ≡ before 58 word ++ 58 ∷ after 58 word = cut_at 58 word (behind_some _ _ 58 (after 58 word) rest) in
    let tail : after 58 word ≡ decimal found.server.0 ++ 58 ∷ decimal found.covers =
    rest ∙ join (before 58 (after 58 word)) (decimal found.server.0) (after 58 (after 58 word)) (decimal found.covers) server.1 covers.1 in (
      record { tid = tid.0; server = server.0; covers = covers.0 },
      whole ∙ join (before 58 word) (tid_text found.tid) (after 58 word) (decimal found.server.0 ++ 58 ∷ decimal found.covers) tid.1 tail,
    )
  where
    join : (a b c d : List ℕ) → a ≡ b → c ≡ d → a ++ 58 ∷ c ≡ b ++ 58 ∷ d
    join a b c d p q = rw (p, q) refl

-- a word with this before the colon, and something behind it
titled : (word title : List ℕ) (b : Bool) → same_bytes (before 58 word) title ≡ true → 0 < length (after 58 word) → word ≡ title ++ 58 ∷ after 58 word
titled word title b e some = cut_at 58 word some ∙ ap (λ front. front ++ 58 ∷ after 58 word) (same_bytes-true (before 58 word) title e)

some_found : (word : List ℕ) (found : Found) → found_in word ≡ Some found → 0 < length word
some_found word found e = let b = found_in_back word found e in behind_some _ _ 58 word b.1

pub found_back : (word : List ℕ) (found : Found) → found_of word ≡ Some found → IsFound found × (word ≡ pend_text found)
unfolding found_of
found_back word found e = by _ refl e
  where
    by : (b : Bool) → same_bytes (before 58 word) (codes "pend") ≡ b → cond b (found_in (after 58 word)) None ≡ Some found → IsFound found × (word ≡ pend_text found)
    by true t p =
        let f = found_in_back (after 58 word) found p in
        (f.0, titled word (codes "pend") true t (some_found (after 58 word) found p) ∙ rw (f.1) refl)
    by false t p = cc

pub done_read : (tid : Tid) → IsTid tid → done_of (done_text tid) ≡ Some tid
unfolding done_of is_done
done_read tid is = tid_read tid is

pub done_back : (word : List ℕ) (tid : Tid) → done_of word ≡ Some tid → IsTid tid × (word ≡ done_text tid)
unfolding done_of is_done
done_back word tid e = by _ refl e
  where
    by : (b : Bool) → same_bytes (before 58 word) (codes "done") ≡ b → cond b (tid_of (after 58 word)) None ≡ Some tid → IsTid tid × (word ≡ done_text tid)
    by true t p =
        let f = tid_back (after 58 word) tid p in
        (f.0, titled word (codes "done") true t (behind_some _ _ 46 (after 58 word) f.1) ∙ rw (f.1) refl)
    by false t p = cc

pub pend_is_not_done : (found : Found) → is_done (pend_text found) ≡ false
unfolding is_done
pend_is_not_done found = refl

pub done_is_done : (tid : Tid) → is_done (done_text tid) ≡ true
unfolding is_done
done_is_done tid = refl

pub pend_word : (found : Found) → IsFound found → is_word (pend_text found) ≡ true
pend_word found is =
    let rest : list_all is_letter (decimal found.server.0 ++ 58 ∷ decimal found.covers) ≡ true =
    word_letters (decimal found.server.0 ++ 58 ∷ decimal found.covers) (marked_word 58 (decimal found.server.0) (decimal found.covers) refl (decimal_letters found.server.0 (omega (arith, is.server))) (decimal_letters found.covers (omega (arith, is.covers)))) in
    let all : list_all is_letter (tid_text found.tid ++ 58 ∷ (decimal found.server.0 ++ 58 ∷ decimal found.covers)) ≡ true =
    word_letters (tid_text found.tid ++ 58 ∷ (decimal found.server.0 ++ 58 ∷ decimal found.covers)) (marked_word 58 (tid_text found.tid) (decimal found.server.0 ++ 58 ∷ decimal found.covers) refl (word_letters (tid_text found.tid) (tid_word found.tid is.tid)) rest) in
    word_from (pend_text found) (omega arith) (rw all refl)

pub done_word : (tid : Tid) → IsTid tid → is_word (done_text tid) ≡ true
done_word tid is = word_from (done_text tid) (omega arith) (rw (word_letters (tid_text tid) (tid_word tid is)) refl)
