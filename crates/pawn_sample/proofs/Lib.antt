mod AppendLaws
