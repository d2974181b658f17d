-- Files of the two forms begin differently, and tell the same things.
use Rattle.std.proofs.Common.{◌≡◌, ◌≢◌, ℕ, List, inl, inr, sym, ap, get_or, take, ◌∙◌, arith}
use Rattle.operations.specs.Operation.{Operation}
use Rattle.texts.specs.SiteFiles.{HasSiteFile, IsNoSiteFile, OneSite, site_tag}
use Rattle.kept_file.specs.PackedFiles.{IsNoPackedFile, OnePackedFile, packed_tag}
use Rattle.kept_file.proofs.OneSite.{file_tagged as site_tagged}
use Rattle.kept_file.proofs.OnePacked.{file_tagged as packed_tagged}
use Rattle.kept_file.specs.KeptFiles.{IsKeptFileOf, IsNoKeptFile, OneKept}

-- what begins with the tag of a packed file is no site's file of messages
packed_is_no_site : (file : List ℕ) → take 4 file ≡ packed_tag → IsNoSiteFile file
packed_is_no_site file begins text site ops is = differ (sym (site_tagged text site ops file is) ∙ begins)
  where
    differ : site_tag ≢ packed_tag
    differ same = absurd (omega (arith, ap (λ (l : List ℕ). get_or l 2 0) same))

-- what doesn't begin with it is no packed file
other_is_no_packed : (file : List ℕ) → take 4 file ≢ packed_tag → IsNoPackedFile file
other_is_no_packed file other text site ops is = other (packed_tagged text site ops file is)

-- a file of neither form is none
no_kept : (file : List ℕ) → IsNoSiteFile file → IsNoPackedFile file → IsNoKeptFile file
no_kept file no_site no_packed text site ops (inl is) = no_site text site ops is
no_kept file no_site no_packed text site ops (inr is) = no_packed text site ops is

-- so is what begins with the tag and is no packed file, and what doesn't and is no file of messages
pub none_packed : (file : List ℕ) → take 4 file ≡ packed_tag → IsNoPackedFile file → IsNoKeptFile file
none_packed file begins no_packed = no_kept file (packed_is_no_site file begins) no_packed

pub none_of_messages : (file : List ℕ) → take 4 file ≢ packed_tag → IsNoSiteFile file → IsNoKeptFile file
none_of_messages file other no_site = no_kept file no_site (other_is_no_packed file other)

-- a file of either form tells operations that a file of messages can tell
pub has_site_file : (text site : ℕ) (ops : List Operation) (file : List ℕ) → IsKeptFileOf text site ops file
    → HasSiteFile text site ops
has_site_file text site ops file (inl is) = is.tells
has_site_file text site ops file (inr is) = record {
  text_number = is.tells.text_number;
  site_number = is.tells.site_number;
  few = omega (arith, is.tells.few);
  spelled = is.tells.spelled;
  of_text = is.tells.of_text;
  once = is.tells.once;
  in_order = is.tells.in_order;
}

-- a file is of one text, one site and one list of operations at most
pub one_kept : OneSite → OnePackedFile → OneKept
one_kept one_site one_packed file text site text' site' ops ops' (inl is) (inl is') =
    one_site file text site text' site' ops ops' is is'
one_kept one_site one_packed file text site text' site' ops ops' (inr is) (inr is') =
    one_packed file text site text' site' ops ops' is is'
one_kept one_site one_packed file text site text' site' ops ops' (inl is) (inr is') =
    absurd (packed_is_no_site file (packed_tagged text' site' ops' file is') text site ops is)
one_kept one_site one_packed file text site text' site' ops ops' (inr is) (inl is') =
    absurd (packed_is_no_site file (packed_tagged text site ops file is) text' site' ops' is')
