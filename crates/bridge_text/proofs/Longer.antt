-- Proofs that texts grow step by step.
use Rattle.std.proofs.Common.{ℕ, List, [], ◌++◌, Option, None}
use Rattle.bridge_text.specs.Growth.{Grows, HasGrown, IsLonger}
use Rattle.bridge_text.proofs.Puts.{grows_none, grows_two}

pub stays : (o : Option (List ℕ)) → IsLonger o o
stays o = record { more = ([], grows_none o) }

pub grown : (o p : Option (List ℕ)) (a : List ℕ) → HasGrown o a p → IsLonger o p
grown o p a h = record { more = (a, h.grows) }

pub twice : (o p q : Option (List ℕ)) → IsLonger o p → IsLonger p q → IsLonger o q
twice o p q first second = record { more = (first.more.0 ++ second.more.0, grows_two o p q first.more.0 second.more.0 first.more.1 second.more.1) }

pub gone : (o : Option (List ℕ)) → IsLonger o None
gone o = record { more = ([], tt) }

pub ruleset longer = (stays, grown, twice, gone)
