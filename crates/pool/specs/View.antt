-- A pool as the broker that the rules speak of.
--
-- Pool            as in the code
-- client_with, client_of   a client as the rules speak of it, of its record and its stack; none where there is no record
-- view            the pool as the rules speak of it
-- IsAdmittedAs    a client is admitted, and this is its record
-- Judges          a call is refused by the first refusal that it meets, those by price aside, or something holds of the result
-- Steps           a call on a pool is a step of the rules, under every price
-- IsSource        where the frame of an ask may come from: 0, the free stack, or a client that has to give one up
-- frames_at       the frames of a client, and for 0 the free ones
-- Grants          the top frame of the free stack, 0, or of another client was granted, or there was none to grant
-- IsNextClient    the lowest number above another that an admitted client has, or none where no client has one
use Rattle.std.specs.Prelude.{◌≡◌, ℕ, zero, suc, ◌<◌, ◌≢◌, ◌⊎◌, List, [], ◌∷◌, Some, None, Option, Result}
use Rattle.rules.specs.Offers.{Meaning}
use Rattle.rules.specs.Refusals.{Replies}
use Rattle.rules.specs.declared.refusal.Refusal.{Refusal}
use Rattle.laws.specs.ByNumber.{put}
use Rattle.laws.specs.Broker as rules
use Rattle.laws.specs.Broker.{SlipNumbers, MayTake}
use Rattle.laws.specs.Calls.{Call, Answer, Step, Absent, unpriced, with_stack, slip, granted}
use Rattle.ledger.specs.Ledgers.{stack_of}
use Rattle.pool.specs.Records.{Member}
use Rattle.pool.specs.Members.{member_of}
pub use Rattle.pool.specs.declared.pool.Pool.{Pool}

abbrev pub client_with : Member → List ℕ → rules.Client
client_with x fs =
    record {
      shares = x.shares;
      class = x.class;
      minimum = x.minimum;
      maximum = x.maximum;
      estimate = x.estimate;
      stack = fs;
    }

abbrev pub client_of : Option Member → List ℕ → Option rules.Client
client_of (Some x) fs = Some (client_with x fs)
client_of None fs = None

abbrev pub view : Pool → rules.Broker
view b =
    record {
      unit = b.unit;
      frames = b.ledger.frames;
      tick = b.tick;
      asks = b.asks;
      free = stack_of b.ledger 0;
      clients = λ c. client_of (member_of b.members c) (stack_of b.ledger c);
      passage = b.passage;
    }

abbrev pub IsAdmittedAs : Pool → ℕ → Member → Type 0
IsAdmittedAs b c x = member_of b.members c ≡ Some x

abbrev pub Judges : {A : Type 0} → Pool → Call → (A → Type 0) → Result A Refusal → Type 0
Judges b x P r = Replies (unpriced (view b) x) P r

abbrev pub Steps : Pool → Call → Result Answer Refusal → Pool → Type 0
Steps b x a d = (m : Meaning) → Step m (view b) x a (view d)

abbrev pub IsSource : Meaning → rules.Broker → ℕ → ℕ → Type 0
IsSource m b c p = ((p ≡ 0) × (b.free ≢ [])) ⊎ ((b.free ≡ []) × MayTake m b c p)

abbrev pub frames_at : rules.Broker → ℕ → List ℕ
frames_at b zero = b.free
frames_at b (suc p) = rules.stack_of (b.clients (suc p))

-- Whether the client may take the frame is for the caller to say, under its price: all this holds of every call.
pub data Grants (b : rules.Broker) (c : ℕ) : ℕ → Option SlipNumbers → rules.Broker → Type 0 where
  free : {f : ℕ} {fs : List ℕ} {x : rules.Client} → b.clients c ≡ Some x → b.free ≡ f ∷ fs →
      Grants b c 0 (Some (slip b c f 0))
      (granted b c f 0 fs (put b.clients c (Some (with_stack x (f ∷ x.stack)))))
  from : {p f : ℕ} {fs : List ℕ} {x y : rules.Client} →
      p ≢ c → b.clients c ≡ Some x → b.clients p ≡ Some y → y.stack ≡ f ∷ fs →
      Grants b c p (Some (slip b c f p))
      (granted b c f p b.free
      (put (put b.clients p (Some (with_stack y fs))) c (Some (with_stack x (f ∷ x.stack)))))
  -- no frame goes onto the stack that it lies in
  nothing : {p : ℕ} → (p ≢ c → frames_at b p ≡ []) → Grants b c p None b

abbrev pub IsNextClient : rules.Broker → ℕ → Option ℕ → Type 0
IsNextClient b n (Some c) = (n < c) × (Absent b c → ⊥) × ((d : ℕ) → n < d → d < c → Absent b d)
IsNextClient b n None = (d : ℕ) → n < d → Absent b d
