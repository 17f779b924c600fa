-- Stored values that were put one after the other: what stands under each key, and which stand under one struct's keys.
use Rattle.mv_saved_text.proofs.Common.{[], ◌++◌, ◌∙◌, ◌∷◌, ◌≡◌, Bool, List, None, Option, Some, ap, arith, cond, false, refl, sym, true, ℕ, filter, ◌&&◌, ◌==◌, Definition, Key, before-trans}
use Rattle.mv_saved_text.proofs.Common.{same_key-to, Ascends-with_words, entries_from_words, words_under-same, words_under-with_words, words_under, Ascends, IsBelow, FlatEntry, key_before, same_key}
use Rattle.mv_saved_text.proofs.Common.{with_entry}

-- ---- one after the other

-- the first of two, if it is there
abbrev pub or_else : Option (List ℕ) → Option (List ℕ) → Option (List ℕ)
or_else (Some w) o = Some w
or_else None o = o

or-none : (o : Option (List ℕ)) → or_else o None ≡ o
or-none o = grind arith

-- what stands under a key among entries and others after them
pub words-append : (xs ys : List FlatEntry) (q : Key) → words_under (xs ++ ys) q ≡ or_else (words_under xs q) (words_under ys q)
words-append [] ys q = refl
words-append (x ∷ xs) ys q = grind (arith, words-append xs ys q)

-- what stands there once an entry was put where none is
words-put : (s : List FlatEntry) (e : FlatEntry) (q : Key) → words_under (with_entry s e) q ≡ or_else (words_under s q) (cond (same_key e.key q) (Some e.words) None)
words-put s e q = grind (arith, words_under-with_words s e.key e.words q, words_under-same s e.key q)

-- a storage with entries put one after the other, each where none is
abbrev pub puts : List FlatEntry → List FlatEntry → List FlatEntry
puts s [] = s
puts s (e ∷ es) = puts (with_entry s e) es

pub words-puts : (s es : List FlatEntry) (q : Key) → words_under (puts s es) q ≡ or_else (words_under s q) (words_under es q)
words-puts s [] q = sym (or-none (words_under s q))
words-puts s (e ∷ es) q = grind (arith, words-puts (with_entry s e) es q, words-put s e q)

pub Ascends-puts : (s es : List FlatEntry) → Ascends s → Ascends (puts s es)
Ascends-puts s [] up = up
Ascends-puts s (e ∷ es) up = Ascends-puts (with_entry s e) es (grind (arith, Ascends-with_words s e.key e.words up))

-- entries that ascend are what they are put into
pub puts-ascending : (es : List FlatEntry) → Ascends es → puts [] es ≡ es
puts-ascending es up = entries_from_words (puts [] es) es (Ascends-puts [] es tt) up (λ q. words-puts [] es q)

-- ---- those of one struct

-- whether an entry is under a key of the struct
abbrev pub is_of : Definition → FlatEntry → Bool
is_of d e = (e.key.place == d.place) && (e.key.index == d.index)

-- the entries under its keys
abbrev pub under : Definition → List FlatEntry → List FlatEntry
under d es = filter (is_of d) es

-- whether a key is one of the struct's
abbrev pub is_key_of : Definition → Key → Bool
is_key_of d q = (q.place == d.place) && (q.index == d.index)

pub words-under : (d : Definition) (es : List FlatEntry) (q : Key) → words_under (under d es) q ≡ cond (is_key_of d q) (words_under es q) None
words-under d [] q = grind arith
words-under d (e ∷ es) q = grind (arith, words-under d es q, same_key-to e.key q)

-- below all of these entries
abbrev pub IsLow : Key → List FlatEntry → Type 0
IsLow key [] = Unit {0}
IsLow key (e ∷ es) = (key_before key e.key ≡ true) × IsLow key es

low-below : (a b : Key) (es : List FlatEntry) → key_before a b ≡ true → IsLow b es → IsLow a es
low-below a b [] h low = tt
low-below a b (e ∷ es) h low = (before-trans a b e.key h low.0, low-below a b es h low.1)

pub low-all : (key : Key) (es : List FlatEntry) → IsBelow key es → Ascends es → IsLow key es
low-all key [] b up = tt
low-all key (e ∷ es) b up = (b, low-below key e.key es b (low-all e.key es up.0 up.1))

low-filter : (d : Definition) (key : Key) (es : List FlatEntry) → IsLow key es → IsBelow key (under d es)
low-filter d key [] low = tt
low-filter d key (e ∷ es) low = grind (arith, low-filter d key es low.1)

pub Ascends-under : (d : Definition) (es : List FlatEntry) → Ascends es → Ascends (under d es)
Ascends-under d [] up = tt
Ascends-under d (e ∷ es) up = by_case (is_of d e) (Ascends-under d es up.1)
  where
    by_case : (b : Bool) → Ascends (under d es) → Ascends (cond b (e ∷ under d es) (under d es))
    by_case true rest = (low-filter d e.key es (low-all e.key es up.0 up.1), rest)
    by_case false rest = rest

-- those of a struct among what entries were put into, if they ascend among the entries
pub under-puts : (d : Definition) (es : List FlatEntry) → Ascends (under d es) → under d (puts [] es) ≡ under d es
under-puts d es up =
    entries_from_words (under d (puts [] es)) (under d es) (Ascends-under d (puts [] es) (Ascends-puts [] es tt)) up
    (λ q. words-under d (puts [] es) q ∙ ap (λ o. cond (is_key_of d q) o None) (words-puts [] es q) ∙ sym (words-under d es q))
