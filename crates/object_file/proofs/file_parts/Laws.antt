-- What a reader takes from the front is spelled so, and what is spelled so is read again: for parts put together.
use Rattle.std.proofs.Common.{◌≡◌, ℕ, ◌<◌, Bool, true, false, cond, List, ◌++◌, length, get_or, Result, Ok, Err, refl, sym, ap, subst, ◌∙◌, append_assoc}
use Rattle.std.specs.Prelude.{IsTrue}
use Rattle.object_file.specs.file_parts.Parts.{Reader, ◌>>=◌, ◌▷◌, allowed, ruled, followed, made}

abbrev pub IsBytes : List ℕ → Type 0
IsBytes bytes = (i : ℕ) → get_or bytes i 0 < 256

-- what a reader took from the front
pub record Takes {A : Type 0} (text : A → List ℕ) (Fits : A → Type 0) (bytes : List ℕ) (x : A × List ℕ) : Type 0 where
  pub parts : bytes ≡ text x.0 ++ x.1
  pub rest_fits : IsBytes x.1
  pub fits : Fits x.0

-- A reader reads the values that fit, each by its text, and nothing else.
pub record Meets {A : Type 0} (read : Reader A) (text : A → List ℕ) (Fits : A → Type 0) : Type 0 where
  pub takes : (bytes : List ℕ) (x : A × List ℕ) → IsBytes bytes → read bytes ≡ Ok x → Takes text Fits bytes x
  pub again : (a : A) (rest : List ℕ) → Fits a → read (text a ++ rest) ≡ Ok (a, rest)

abbrev pub done : {A : Type 0} → A → Result A ℕ
done x = Ok x

pub ok_is : {A : Type 0} (x y : A) → done x ≡ done y → x ≡ y
ok_is x y same = cc

-- the value of parts that were sound
pub bind_ok : {A B : Type 0} (r : Result A ℕ) (more : A → Result B ℕ) (y : B) → (r >>= more) ≡ Ok y → (x : A) × (r ≡ Ok x) × (more x ≡ Ok y)
bind_ok (Ok x) more y same = (x, refl, same)
bind_ok (Err left) more y same = absurd cc

pub rule_ok : {A : Type 0} (b : Bool) (left : ℕ) (x y : A) → cond b (Ok x) (Err left) ≡ Ok y → (b ≡ true) × (x ≡ y)
rule_ok true left x y same = (refl, cc)
rule_ok false left x y same = absurd cc

pub rule_holds : {A : Type 0} (b : Bool) (left : ℕ) (x : A) → IsTrue b → cond b (done x) (Err left) ≡ Ok x
rule_holds b left x holds = rw holds refl

-- the same values by another word
pub fits_as : {A : Type 0} {read : Reader A} {text : A → List ℕ} {F : A → Type 0} (G : A → Type 0) → Meets read text F → ((a : A) → F a → G a) → ((a : A) → G a → F a) → Meets read text G
fits_as {read = read} {text = text} G meets to from = record {
  takes = λ bytes x fits e. let t = meets.takes bytes x fits e in record { parts = t.parts; rest_fits = t.rest_fits; fits = to x.0 t.fits };
  again = λ a rest fits. meets.again a rest (from a fits);
}

-- the same bytes by another word
pub text_as : {A : Type 0} {read : Reader A} {text : A → List ℕ} {F : A → Type 0} (other : A → List ℕ) → Meets read text F → ((a : A) → other a ≡ text a) → Meets read other F
text_as {read = read} {text = text} {F = F} other meets same = record {
  takes = λ bytes x fits e. let t = meets.takes bytes x fits e in record { parts = t.parts ∙ ap (λ (front : List ℕ). front ++ x.1) (sym (same x.0)); rest_fits = t.rest_fits; fits = t.fits };
  again = λ a rest fits. ap (λ (front : List ℕ). read (front ++ rest)) (same a) ∙ meets.again a rest fits;
}

-- a part and its rule
pub ruled_meets : {A : Type 0} {read : Reader A} {text : A → List ℕ} {F : A → Type 0} (rule : A → Bool) → Meets read text F → Meets (ruled rule read) text (λ a. F a × IsTrue (rule a))
ruled_meets {A = A} {read = read} {text = text} {F = F} rule meets = record {
  takes = λ bytes x fits e.
      let b = bind_ok (read bytes) (λ x. allowed (length bytes) (rule x.0) x) x e in
      let g = rule_ok (rule b.0.0) (length bytes) b.0 x b.2 in
      let t = meets.takes bytes b.0 fits b.1 in
      subst (λ (y : A × List ℕ). Takes text (λ a. F a × IsTrue (rule a)) bytes y) g.1 (record { parts = t.parts; rest_fits = t.rest_fits; fits = (t.fits, g.0) });
  again = λ a rest fits.
      ap (λ r. r >>= λ x. allowed (length (text a ++ rest)) (rule x.0) x) (meets.again a rest fits.0) ∙ rule_holds (rule a) (length (text a ++ rest)) (a, rest) fits.1;
}

-- one part, and then one that depends on it
pub followed_meets : {A B : Type 0} {read : Reader A} {more : A → Reader B} {text : A → List ℕ} {text_more : B → List ℕ} {F : A → Type 0} {G : A → B → Type 0}
    → Meets read text F → ((a : A) → Meets (more a) text_more (G a)) → Meets (followed read more) (λ p. text p.0 ++ text_more p.1) (λ p. F p.0 × G p.0 p.1)
followed_meets {A = A} {B = B} {read = read} {more = more} {text = text} {text_more = text_more} {F = F} {G = G} first second = record {
  takes = λ bytes x fits e.
      let a = bind_ok (read bytes) (λ first. more first.0 first.1 >>= λ second. Ok ((first.0, second.0), second.1)) x e in
      let b = bind_ok (more a.0.0 a.0.1) (λ second. Ok ((a.0.0, second.0), second.1)) x a.2 in
      let t = first.takes bytes a.0 fits a.1 in
      let u = (second a.0.0).takes a.0.1 b.0 t.rest_fits b.1 in
      let both : (A × B) × List ℕ = ((a.0.0, b.0.0), b.0.1) in
      subst (λ (y : (A × B) × List ℕ). Takes (λ (p : A × B). text p.0 ++ text_more p.1) (λ (p : A × B). F p.0 × G p.0 p.1) bytes y) (ok_is both x b.2) (record {
        parts = t.parts ∙ ap (λ (rest : List ℕ). text a.0.0 ++ rest) u.parts ∙ sym (append_assoc (text a.0.0) (text_more b.0.0) b.0.1);
        rest_fits = u.rest_fits;
        fits = (t.fits, u.fits);
      });
  again = λ p rest fits.
      ap (followed read more) (append_assoc (text p.0) (text_more p.1) rest)
      ∙ ap (λ r. r >>= λ first. more first.0 first.1 >>= λ second. Ok ((first.0, second.0), second.1)) (first.again p.0 (text_more p.1 ++ rest) fits.0)
      ∙ ap (λ r. r >>= λ second. Ok ((p.0, second.0), second.1)) ((second p.0).again p.1 rest fits.1);
}

-- one part, and then another one
pub then_meets : {A B : Type 0} {read : Reader A} {more : Reader B} {text : A → List ℕ} {text_more : B → List ℕ} {F : A → Type 0} {G : B → Type 0}
    → Meets read text F → Meets more text_more G → Meets (read ▷ more) (λ p. text p.0 ++ text_more p.1) (λ p. F p.0 × G p.1)
then_meets {more = more} {G = G} first second = followed_meets {more = λ _. more} {G = λ _. G} first (λ _. second)

-- the parts that a value is made of
pub record MadeOf {A H : Type 0} (make : A → H) (Fits : A → Type 0) (h : H) : Type 0 where
  pub parts : A
  pub is_made : make parts ≡ h
  pub fits : Fits parts

-- what parts make
pub made_meets : {A H : Type 0} {read : Reader A} {text : A → List ℕ} {F : A → Type 0} (make : A → H) (text_made : H → List ℕ) (P : H → Type 0)
    → Meets read text F → ((a : A) → F a → (text_made (make a) ≡ text a) × P (make a)) → ((h : H) → P h → MadeOf make F h) → Meets (made make read) text_made P
made_meets {A = A} {H = H} {read = read} {text = text} {F = F} make text_made P meets to from = record {
  takes = λ bytes x fits e.
      let a = bind_ok (read bytes) (λ parts. Ok (make parts.0, parts.1)) x e in
      let t = meets.takes bytes a.0 fits a.1 in
      let m = to a.0.0 t.fits in
      let value : H × List ℕ = (make a.0.0, a.0.1) in
      subst (λ (y : H × List ℕ). Takes text_made P bytes y) (ok_is value x a.2) (record {
        parts = t.parts ∙ ap (λ (front : List ℕ). front ++ a.0.1) (sym m.0);
        rest_fits = t.rest_fits;
        fits = m.1;
      });
  again = λ h rest fits.
      let m = from h fits in
      let back : text_made h ≡ text m.parts = ap text_made (sym m.is_made) ∙ (to m.parts m.fits).0 in
      ap (λ (front : List ℕ). made make read (front ++ rest)) back
      ∙ ap (λ r. r >>= λ parts. Ok (make parts.0, parts.1)) (meets.again m.parts rest m.fits)
      ∙ ap (λ (value : H). Ok (value, rest)) m.is_made;
}

-- a value that is its parts
pub record_meets : {A H : Type 0} {read : Reader A} {text : A → List ℕ} {F : A → Type 0} (make : A → H) (parts : H → A) → ((h : H) → make (parts h) ≡ h) → ((a : A) → parts (make a) ≡ a)
    → Meets read text F → Meets (made make read) (λ h. text (parts h)) (λ h. F (parts h))
record_meets {A = A} {text = text} {F = F} make parts back there meets =
    made_meets make (λ h. text (parts h)) (λ h. F (parts h)) meets
    (λ a fits. (ap text (there a), subst F (sym (there a)) fits))
    (λ h fits. record { parts = parts h; is_made = back h; fits = fits })

-- Values that fit have one text each, and none begins another.
pub spelled_once : {A : Type 0} {read : Reader A} {text : A → List ℕ} {F : A → Type 0} → Meets read text F → (a b : A) (x y : List ℕ) → F a → F b → text a ++ x ≡ text b ++ y → a ≡ b
spelled_once {A = A} {read = read} meets a b x y fits fits_too same =
    let one : A × List ℕ = (a, x) in
    let other : A × List ℕ = (b, y) in
    ap (λ (p : A × List ℕ). p.0) (ok_is one other (sym (meets.again a x fits) ∙ ap read same ∙ meets.again b y fits_too))
