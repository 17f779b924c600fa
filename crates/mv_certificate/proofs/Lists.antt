-- The lists of functions, and the texts of the elements of a list, written one after another.
use Rattle.mv_certificate.proofs.Common.{[], ℕ, ◌++◌, ◌+◌, ◌<◌, ◌∙◌, ◌∷◌, ◌≡◌, ◌≤◌, List, ap, append-nil, append_assoc, flat_map, get_or, length, map, sym, take, flat_map-append, take_all}
use Rattle.mv_certificate.proofs.Common.{take_more, uleb, counted}
use Rattle.mv_certificate.proofs.Common.{Certificate, Global, Known, Option, Stated, Vec, arith, certificate_text, length-map, stated_text}
use Rattle.std.proofs.Math.ListN.{get_or-map}
use Rattle.std.proofs.lemmas.List.{map-append, map_more}

-- the lists of so many functions
abbrev pub lists : List (Vec (Option Known) Global) → Certificate
lists functions = map (λ f. f.items) functions

-- one more is pushed
pub lists-more : (functions new : List (Vec (Option Known) Global)) (one : Vec (Option Known) Global) → new ≡ functions ++ one ∷ [] → lists new ≡ lists functions ++ one.items ∷ []
lists-more functions new one pushed = ap lists pushed ∙ map-append (λ (f : Vec (Option Known) Global). f.items) functions (one ∷ [])

-- one more is written
pub text-next : {A : Type 0} (text : A → List ℕ) (xs : List A) (i : ℕ) (d x : A) (start out new : List ℕ) → i < length xs → x ≡ get_or xs i d
    → out ≡ start ++ flat_map text (take i xs) → new ≡ out ++ text x → new ≡ start ++ flat_map text (take (i + 1) xs)
text-next text xs i d x start out new lt is before now =
    now ∙ ap (λ z. z ++ text x) before ∙ append_assoc start (flat_map text (take i xs)) (text x)
    ∙ ap (λ z. start ++ (flat_map text (take i xs) ++ z)) (sym (append-nil (text x)))
    ∙ ap (λ z. start ++ z) (sym (flat_map-append text (take i xs) (x ∷ [])))
    ∙ ap (λ z. start ++ flat_map text (take i xs ++ z ∷ [])) is
    ∙ ap (λ z. start ++ flat_map text z) (sym (take_more xs i d lt))

pub text-more : {A : Type 0} (text : A → List ℕ) (xs : List A) (i : ℕ) (x : A) (start out new : List ℕ) → i < length xs → x ≡ get_or xs i x
    → out ≡ start ++ flat_map text (take i xs) → new ≡ out ++ text x → new ≡ start ++ flat_map text (take (i + 1) xs)
text-more text xs i x start out new lt is before now = text-next text xs i x x start out new lt is before now

-- all are written
text-end : {A : Type 0} (text : A → List ℕ) (xs : List A) (i : ℕ) (start out : List ℕ) → length xs ≤ i → out ≡ start ++ flat_map text (take i xs)
    → out ≡ start ++ flat_map text xs
text-end text xs i start out le before = before ∙ ap (λ z. start ++ flat_map text z) (take_all i xs le)

-- all are written after their number
pub counted-end : {A : Type 0} (text : A → List ℕ) (xs : List A) (i : ℕ) (first start out : List ℕ) → length xs ≤ i → start ≡ first ++ uleb (length xs)
    → out ≡ start ++ flat_map text (take i xs) → out ≡ first ++ counted text xs
counted-end text xs i first start out le count before =
    text-end text xs i start out le before ∙ ap (λ z. z ++ flat_map text xs) count ∙ append_assoc first (uleb (length xs)) (flat_map text xs)

-- one more byte is written
pub codes-more : {A : Type 0} (code : A → ℕ) (xs : List A) (i : ℕ) (d : A) (byte : ℕ) (start out new : List ℕ) → i < length xs → byte ≡ code (get_or xs i d)
    → out ≡ start ++ map code (take i xs) → new ≡ out ++ byte ∷ [] → new ≡ start ++ map code (take (i + 1) xs)
codes-more code xs i d byte start out new lt coded before now =
    now ∙ (λ j. before j ++ coded j ∷ []) ∙ append_assoc start (map code (take i xs)) (code (get_or xs i d) ∷ [])
    ∙ ap (λ z. start ++ z) (sym (map_more code xs i d lt))

-- all are written
pub codes-end : {A : Type 0} (code : A → ℕ) (xs : List A) (i : ℕ) (start out : List ℕ) → length xs ≤ i → out ≡ start ++ map code (take i xs) → out ≡ start ++ map code xs
codes-end code xs i start out le before = before ∙ ap (λ z. start ++ map code z) (take_all i xs le)

-- the text of one function more
pub function-next : (functions : List (Vec (Option Known) Global)) (c : Certificate) (i : ℕ) (one : Vec (Option Known) Global) (stated : Stated) (out new : List ℕ) → i < length functions
    → one ≡ get_or functions i one → lists functions ≡ c → stated ≡ one.items → out ≡ certificate_text (take i c) → new ≡ out ++ flat_map stated_text stated
    → new ≡ certificate_text (take (i + 1) c)
function-next functions c i one stated out new lt at all is before now =
    let items = λ (f : Vec (Option Known) Global). f.items in
    let low : i < length c = omega (arith, ap length all, length-map functions items) in
    let here : stated ≡ get_or c i one.items = is ∙ ap items at ∙ sym (get_or-map items functions i one) ∙ ap (λ z. get_or z i one.items) all in
    text-next (flat_map stated_text) c i one.items stated [] out new low here before now
