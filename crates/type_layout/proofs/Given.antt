-- What each type of a table gives, as the table grows.
use Rattle.std.proofs.Common.{◌≡◌, ℕ, ◌+◌, List, [], ◌∷◌, ◌++◌, length, refl, arith, ◌∙◌, append_assoc, length-append, get_or, ◌<◌, append-nil, zero-add}
use Rattle.std.proofs.Math.ListN.{get_or-append}
use Rattle.std.proofs.Math.Seq.{get_or-append_seam}
use Rattle.type_layout.specs.declared.definitions.TypeDef.{TypeDef}
use Rattle.type_layout.specs.Layouts.{given_by, layout_by, layouts_of}

pub length-given_by : {A : Type 0} (rule : List TypeDef → List A → TypeDef → A) (before : List TypeDef) (given : List A) (types : List TypeDef)
    → length (given_by rule before given types) ≡ length given + length types
length-given_by rule before given [] = omega arith
length-given_by {A} rule before given (one ∷ rest) =
    let more : List A = given ++ rule before given one ∷ [] in
    let rec : length (given_by rule (before ++ one ∷ []) more rest) ≡ length more + length rest =
    length-given_by rule (before ++ one ∷ []) more rest in
    let len : length more ≡ length given + 1 = length-append given (rule before given one ∷ []) in
    omega arith

-- a table that grows by one type gives what it gave, and what the rule gives at that type
pub given_by-push : {A : Type 0} (rule : List TypeDef → List A → TypeDef → A) (before : List TypeDef) (given : List A) (types : List TypeDef) (one : TypeDef)
    → given_by rule before given (types ++ one ∷ [])
    ≡ given_by rule before given types ++ rule (before ++ types) (given_by rule before given types) one ∷ []
given_by-push rule before given [] one = rw append-nil refl
given_by-push rule before given (first ∷ rest) one =
    let rec = given_by-push rule (before ++ first ∷ []) (given ++ rule before given first ∷ []) rest one in
    rw append_assoc at rec

pub length-layouts_of : (types : List TypeDef) → length (layouts_of types) ≡ length types
length-layouts_of types = length-given_by layout_by [] [] types ∙ zero-add (length types)

pub layouts_of-push : (types : List TypeDef) (one : TypeDef)
    → layouts_of (types ++ one ∷ []) ≡ layouts_of types ++ layout_by types (layouts_of types) one ∷ []
layouts_of-push types one = given_by-push layout_by [] [] types one

pub given_by-append : {A : Type 0} (rule : List TypeDef → List A → TypeDef → A) (before : List TypeDef) (given : List A) (front back : List TypeDef)
    → given_by rule before given (front ++ back) ≡ given_by rule (before ++ front) (given_by rule before given front) back
given_by-append rule before given [] back = rw append-nil refl
given_by-append rule before given (first ∷ rest) back =
    let rec = given_by-append rule (before ++ first ∷ []) (given ++ rule before given first ∷ []) rest back in
    rw append_assoc at rec

-- what was given stays, whatever types follow
pub get_or-given_by : {A : Type 0} (rule : List TypeDef → List A → TypeDef → A) (before : List TypeDef) (given : List A) (types : List TypeDef) (k : ℕ) (d : A)
    → k < length given → get_or (given_by rule before given types) k d ≡ get_or given k d
get_or-given_by rule before given [] k d within = refl
get_or-given_by {A} rule before given (one ∷ rest) k d within =
    let more : List A = given ++ rule before given one ∷ [] in
    let longer : k < length more = omega (arith, length-append given (rule before given one ∷ [])) in
    get_or-given_by rule (before ++ one ∷ []) more rest k d longer ∙ get_or-append given (rule before given one ∷ []) d k within

-- what the rule gives at a type that stands first
pub get_or-given_by-first : {A : Type 0} (rule : List TypeDef → List A → TypeDef → A) (before : List TypeDef) (given : List A) (one : TypeDef) (rest : List TypeDef) (d : A)
    → get_or (given_by rule before given (one ∷ rest)) (length given) d ≡ rule before given one
get_or-given_by-first {A} rule before given one rest d =
    let more : List A = given ++ rule before given one ∷ [] in
    let longer : length given < length more = omega (arith, length-append given (rule before given one ∷ [])) in
    get_or-given_by rule (before ++ one ∷ []) more rest (length given) d longer ∙ get_or-append_seam given (rule before given one) [] d

-- what the rule gives at a type in the middle
pub get_or-given_by-middle : {A : Type 0} (rule : List TypeDef → List A → TypeDef → A) (front : List TypeDef) (one : TypeDef) (back : List TypeDef) (d : A)
    → get_or (given_by rule [] [] (front ++ one ∷ back)) (length front) d ≡ rule front (given_by rule [] [] front) one
get_or-given_by-middle {A} rule front one back d =
    let none : List A = [] in
    let len : length (given_by rule [] none front) ≡ length front = length-given_by rule [] none front ∙ zero-add (length front) in
    let first = get_or-given_by-first rule front (given_by rule [] none front) one back d in
    rw (given_by-append, ← len) first

-- a prefix of the table gives the same alone
pub get_or-given_by-front : {A : Type 0} (rule : List TypeDef → List A → TypeDef → A) (front back : List TypeDef) (k : ℕ) (d : A)
    → k < length front → get_or (given_by rule [] [] (front ++ back)) k d ≡ get_or (given_by rule [] [] front) k d
get_or-given_by-front {A} rule front back k d within =
    let none : List A = [] in
    let len : length (given_by rule [] none front) ≡ length front = length-given_by rule [] none front ∙ zero-add (length front) in
    rw given_by-append (get_or-given_by rule front (given_by rule [] none front) back k d (omega (arith, len)))
