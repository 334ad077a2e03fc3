-- Steps of the crate's own functions, over what `Others` defines.
use Rattle.std.specs.Prelude.{◌+◌, Bool, cond}
use Rattle.flux_base.specs.declared.header_name.HeaderName.{HeaderName}
use Rattle.turn_merge.specs.declared.others.OtherTold.{OtherTold}
use Rattle.turn_merge.specs.Others.{same_name}

-- what is told of a name with one more header, where that has this name
abbrev pub with_header : HeaderName → Bool → OtherTold → OtherTold
with_header name whole told =
    cond (same_name told.name name)
    (record {
      name = told.name;
      headers = told.headers + 1;
      whole = told.whole + cond whole 1 0;
      first = told.first;
    })
    told
